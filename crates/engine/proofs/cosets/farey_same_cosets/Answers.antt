-- `farey_same_cosets` meets its contract: what its call promises, and what a number 0 says (`cosets_say`). Assumes nothing.
use Rattle.call.proofs.Laws.{call_made}
use Rattle.same_coset.proofs.Whole.{cosets_say}
use borrow.Author.Rules.{rules}
use Prim.Native.Nat.{◌/◌}
use lib.ListN.{length}
use Rattle.sheets.specs.Sheet.{pairs_in}
use Rattle.same_coset.specs.Pairs.{whole_pairs, ragged}
use Rattle.engine.proofs.Numbers.{rows_numbered}
use Rattle.engine.proofs.cosets.farey_same_cosets.Goals as goal

pub returns : goal.returns
returns c =
    let q = c.same_cosets in
    let s = c.args in
    call_made _ (rows_numbered s.v s.t.now s.w.now (ragged (length s.p.now)) (whole_pairs (length s.p.now)) (pairs_in s.p.now)
    (length s.lines.now / 2))
    (cosets_say s.v s.t.now s.p.now s.w.now q.new.w s.lines.now q.new.lines)
    q.ensures c.of_filled-said.ensures.0 c.of_filled-said.ensures.1
