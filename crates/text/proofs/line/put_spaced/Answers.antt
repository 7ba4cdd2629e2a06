-- `text::line::put_spaced` meets its contract: a space, and then the number. Assumes nothing.
use native.Mathlib.Omega.{arith}
use Rattle.decimal.proofs.Placing.{puts_then}
use Rattle.text.proofs.line.put_spaced.Goals as goal

pub returns : goal.returns
returns g c =
    let p = c.put-from.ensures in
    let x = c.put.ensures in
    (puts_then p x.puts (omega arith), omega (arith, p.end_is, x.within))
