-- `index_text::constant_lines` meets its contract: the head, the lines and the tail, one behind the other. Assumes nothing.
use native.Mathlib.Omega.{arith}
use Rattle.text.proofs.InputText.{puts_prints}
use Rattle.index_text.proofs.Entering.{constant_put}
use Rattle.index_text.proofs.constant_lines.Goals as goal

pub returns : goal.returns
returns c =
    let third = c.put.ensures in
    let m = c in
    let second = m.put_entries-second.ensures in
    let first = m.put-first.ensures in
    puts_prints (constant_put first second.0 third (omega (arith, first.end_is))) (omega arith)
