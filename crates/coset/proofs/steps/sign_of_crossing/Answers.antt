-- `sign_of_crossing`: with no letter the way of the edge tells, else the letter's own sign (`crossing_none`, `crossing_some`). Assumes nothing.
use mathlib.Core.Path.{◌∙◌}
use Rattle.signs.specs.Step.{left_to_right}
use Rattle.coset.proofs.Noted.{crossing_none, crossing_some}
use borrow.Author.Rules.{rules}
use Rattle.coset.proofs.steps.sign_of_crossing.Goals as goal

pub returns-then-letter-eq0 : goal.returns-then-letter-eq0
returns-then-letter-eq0 c = let s = c in
    c.is_left_to_right.ensures ∙ crossing_none s.ranges.letter (left_to_right s.args.v s.args.p) c.if-letter-eq0.true

pub returns : goal.returns
returns c = let s = c in crossing_some s.ranges.letter (left_to_right s.args.v s.args.p) c.if-letter-eq0.false
