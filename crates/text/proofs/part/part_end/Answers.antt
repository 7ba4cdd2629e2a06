-- `part_end_lem` meets its contract: the survey of the pieces finds one that is no number, or the end of the first text; either lies in the text.
-- Assumes nothing.
use mathlib.Core.Path.{sym, ◌∙◌}
use native.Mathlib.Omega.{arith}
use Rattle.text.specs.Piece.{pieces}
use Rattle.text.proofs.Answers.{survey_all}
use Rattle.text.proofs.Ends.{part_bad, part_sound, part_inside}
use Rattle.text.proofs.part.part_end.Goals as goal

pub end_of_first-requires : goal.end_of_first-requires
end_of_first-requires c =
    let d = c in
    survey_all (pieces d.args.text.now) c.in-Ok.count (sym c.in-Ok.is ∙ d.survey_of.ensures)

pub returns-in-Err : goal.returns-in-Err
returns-in-Err c =
    let d = c in
    let a = d.args in
    let e = part_bad a.format a.text.now c.in-Err.field-0 (sym c.in-Err.is ∙ d.survey_of.ensures) in
    (e, omega arith)

pub returns-in-Ok : goal.returns-in-Ok
returns-in-Ok c =
    let k = c in
    let d = k in
    let a = d.args in
    let all = survey_all (pieces a.text.now) k.in-Ok.count (sym k.in-Ok.is ∙ d.survey_of.ensures) in
    let e = c.end_of_first.ensures ∙ part_sound a.format a.text.now all.0 in
    (e, omega (arith, e, part_inside a.format a.text.now))
