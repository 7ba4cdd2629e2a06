-- `has_label`: not at the side that is passed over (`passed_over`), elsewhere by its entry (`by_entry`). Assumes nothing.
use mir.Facts.{to_z-of_z}
use borrow.Author.Rules.{rules}
use Rattle.matrix.specs.Matrix.{nth}
use Rattle.matrix.proofs.Bounds.{kept}
use Rattle.partner_exchange.proofs.Copied.{passed_over, by_entry}
use Rattle.partner_exchange.proofs.has_label.Goals as goal

pub returns-then-k-skip : goal.returns-then-k-skip
returns-then-k-skip c = let s = c in passed_over s.args.p.now s.args.x s.args.skip s.args.k c.if-k-skip.true

pub returns : goal.returns
returns c =
    let s = c in
    by_entry s.args.p.now s.args.x s.args.skip s.args.k _ _ _ c.equal.ensures
    (kept (nth s.args.p.now s.args.k) c.equal-arg-1.given)
    (to_z-of_z s.ranges.x)
    c.if-k-skip.false
