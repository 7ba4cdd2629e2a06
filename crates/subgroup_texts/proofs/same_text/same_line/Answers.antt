-- `same_line` meets its contract: each answer has its line. Assumes nothing.
use Rattle.std.specs.Prelude.{Ok}
use mathlib.Core.Path.{ap, ◌∙◌}
use Rattle.decimal.proofs.Placing.{puts_as}
use Rattle.subgroup_texts.proofs.SameLines.{yes_line, no_line, refused_line}
use Rattle.subgroup_texts.proofs.same_text.same_line.Goals as goal

pub returns-in-Ok-true : goal.returns-in-Ok-true
returns-in-Ok-true c =
    let p = c in
    let told = p in
    puts_as (yes_line told.args.answer (told.in-Ok-true.is ∙ ap Ok told.in-Ok-true.field-0-test)) p.put.ensures

pub returns-in-Ok-false : goal.returns-in-Ok-false
returns-in-Ok-false c =
    let p = c in
    let told = p in
    puts_as (no_line told.args.answer (told.in-Ok-false.is ∙ ap Ok told.in-Ok-false.field-0-test)) p.put-in-Ok-false.ensures

pub returns-in-Err : goal.returns-in-Err
returns-in-Err c =
    let p = c in
    let known = p in
    puts_as (refused_line known.args.answer known.in-Err.refusal known.in-Err.is) p.refusal_line.ensures
