-- `write_line` puts the line of either answer in two rows (`line_word`, `line_refused`); its numbers fit. Assumes nothing.
use mathlib.Core.Path.{◌∙◌}
use native.Mathlib.Omega.{arith}
use Rattle.matrix.proofs.Bounds.{kept}
use Rattle.sheets.proofs.Lines.{line_word, line_refused}
use Rattle.sheets.proofs.write_line.Goals as goal

pub signed-requires : goal.signed-requires
signed-requires c = let k = c in omega (arith, k.requires.1.word _ _ _ k.in-Ok.is)

pub signed-requires-in-Ok : goal.signed-requires-in-Ok
signed-requires-in-Ok c =
    let p = c in
    let k = p in
    omega (arith, k.requires.1.word _ _ _ k.in-Ok.is)

pub put_refusal-requires : goal.put_refusal-requires
put_refusal-requires c =
    let k = c in
    let s = k in
    let f = s.requires.1.refused _ k.in-Err.is in
    (omega (arith, s.requires.0), f.0, f.1)

pub returns-in-Ok : goal.returns-in-Ok
returns-in-Ok c =
    let sign = c.sign_number in
    let n = c.signed-in-Ok in
    let first = c in
    let start = first.signed in
    let k = first in
    let s = k in
    line_word s.args.i s.args.lines.now s.requires.0 s.args.answer _ _ _ k.in-Ok.is _ _ _
    (kept start.result start.type_inv ∙ start.ensures) (kept n.result n.type_inv ∙ n.ensures) (kept sign.result sign.type_inv ∙ sign.ensures)
    first.put_two.ensures c.put_two-in-Ok.ensures

pub returns-in-Err : goal.returns-in-Err
returns-in-Err c =
    let first = c in
    let k = first in
    let s = k in
    line_refused s.args.i s.args.lines.now s.requires.0 s.args.answer _ k.in-Err.is
    first.put_refusal.ensures c.put_two-in-Err.ensures
