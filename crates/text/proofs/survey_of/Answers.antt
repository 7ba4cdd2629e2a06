use native.Mathlib.Omega.{arith}
use mathlib.Core.Path.{subst, ◌∙◌}
use Rattle.text.specs.Inner.Inside.{PieceRead, NextNumber}
use Rattle.text.proofs.Exits.{handed_out}
use Rattle.text.proofs.Walks.{walked_start, walked_more, walked_count, walked_bad}
use Rattle.text.proofs.survey_of.Goals.{In-Some}
use Rattle.text.proofs.survey_of.Goals as goal

-- the number that a turn goes past
step : (c : In-Some)
    → PieceRead c.args.text.now c.loop-number.from c.in-Some.number.value c.in-Some.number.at c.in-Some.number.end
step c = subst (NextNumber c.args.text.now c.loop-number.from) c.in-Some.is c.in_ok-number.ensures

pub loop-number-init : goal.loop-number-init
loop-number-init c = record { walked = walked_start c.args.text.now; few = omega arith }

pub next-requires : goal.next-requires
next-requires c = c.loop-number.invariant.walked.inside

pub returns-in_err-number : goal.returns-in_err-number
returns-in_err-number c = handed_out c.from_residual.result c.from_residual.ensures.1
    ∙ walked_bad c.loop-number.invariant.walked c.in_err-number.ensures

pub overflow_add-count : goal.overflow_add-count
overflow_add-count c = let s = step (goal.at.overflow_add-count c).In-Some in omega arith

pub loop-number-smaller : goal.loop-number-smaller
loop-number-smaller c = let s = step (goal.at.loop-number-smaller c).In-Some in omega arith

pub loop-number-preserved : goal.loop-number-preserved
loop-number-preserved c = let s = step c in
    record { walked = walked_more c.loop-number.invariant.walked s; few = omega arith }

pub returns : goal.returns
returns c = walked_count c.loop-number.invariant.walked
    (subst (NextNumber c.args.text.now c.loop-number.from) c.in_default.is c.in_ok-number.ensures)
