-- `farey_sheet` meets its contract: what the sheet promises, and what a number 0 says (`sheet_says`). Assumes nothing.
use Rattle.call.proofs.Laws.{call_made}
use Rattle.sheets.proofs.Whole.{sheet_says}
use borrow.Author.Rules.{rules}
use Prim.Native.Nat.{◌/◌}
use lib.ListN.{length}
use Rattle.sheets.specs.Sheet.{bad_count, pairs_in}
use Rattle.engine.proofs.Numbers.{rows_numbered}
use Rattle.engine.proofs.queries.farey_sheet.Goals as goal

pub returns : goal.returns
returns c =
    let q = c.sheet in
    let s = c.args in
    call_made _ (rows_numbered s.v s.t.now s.w.now (bad_count (length s.p.now)) 2048 (pairs_in s.p.now) (length s.lines.now / 4))
    (sheet_says s.v s.t.now s.p.now s.w.now q.new.w s.lines.now q.new.lines s.out.now
    q.new.out
    q.ensures.leaves) q.ensures c.of_filled-said.ensures.0 c.of_filled-said.ensures.1
