-- `tower_line` meets its contract: each answer has its line. Assumes nothing.
use Rattle.decimal.proofs.Placing.{puts_as}
use Rattle.subgroup_texts.proofs.TowerLines.{passes_line, refused_line}
use Rattle.subgroup_texts.proofs.tower_text.tower_line.Goals as goal

pub returns-in-Ok : goal.returns-in-Ok
returns-in-Ok c =
    let p = c in
    let told = p in
    puts_as (passes_line told.args.answer told.in-Ok.is) p.put.ensures

pub returns-in-Err : goal.returns-in-Err
returns-in-Err c =
    let p = c in
    let known = p in
    puts_as (refused_line known.args.answer known.in-Err.refusal known.in-Err.is) p.refusal_line.ensures
