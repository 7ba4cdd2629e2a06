-- `is_free_label`: a label is above 0 and found at some side (`free_found`). Assumes nothing.
use mathlib.Core.Path.{◌≡◌, ◌∙◌, ap}
use mir.Facts.{to_z-of_z}
use Rattle.partner_exchange.proofs.Copied.{free_found, not_positive}
use borrow.Author.Rules.{rules}
use Rattle.partner_exchange.proofs.is_free_label.Goals as goal

pub returns-then-x-gt0 : goal.returns-then-x-gt0
returns-then-x-gt0 c =
    let s = c in
    free_found s.args.v s.args.p.now s.args.x _ (rw (to_z-of_z s.ranges.x) at c.find_side.ensures)
    (rw (to_z-of_z s.ranges.x) at c.if-x-gt0.true)

pub returns : goal.returns
returns c =
    let s = c in
    not_positive s.args.v s.args.p.now s.args.x (rw (to_z-of_z s.ranges.x) at c.if-x-gt0.false)
