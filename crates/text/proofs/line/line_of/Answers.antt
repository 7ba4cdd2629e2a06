-- `text::line::line_of` meets its contract: its parts, one after another, are a line. Assumes nothing.
use mathlib.Core.List.{map}
use native.Mathlib.Omega.{arith}
use Rattle.text.proofs.Spacing.{line_put}
use Rattle.text.proofs.line.line_of.Goals as goal

pub returns : goal.returns
returns g c =
    let s = c.args in
    let p = c.put-first.ensures in
    let q = c.put_each-second.ensures in
    let e = c.put.ensures in (
      line_put s.name.now (map g.T.Decimal.value s.xs.now) p q.0 e (omega (arith, p.end_is, q.0.end_is, q.1)),
      omega (arith, p.end_is, q.1, e.end_is),
    )
