-- `answer_ready` follows the matrix from a to b. Why: the walk along that matrix is the one that the definition of the answer makes (`as_found_after`).
-- Assumes nothing.
use native.Mathlib.Omega.{arith}
use Rattle.word.proofs.Finding.{ready, setting, as_found_after}
use Rattle.word.proofs.answer_ready.Goals as goal

pub matrix_between-m-requires : goal.matrix_between-m-requires
matrix_between-m-requires c = (c.requires.prepared.tables.symbol, c.requires.entries_A, c.requires.entries_B)

pub tally-end-requires : goal.tally-end-requires
tally-end-requires c =
    let s = c in
    let q = ready s.requires c.matrix_between-m.ensures in
    let h = setting q s.args.start 0 s.args.out.now (omega arith) in
    (q.prepared, h.1, h.2, h.3)

pub find-requires : goal.find-requires
find-requires c = (
  ready c.requires c.matrix_between-m.ensures,
  c.tally-end.ensures.0,
)

pub returns : goal.returns
returns c =
    let s = c in
    let f = c.find in
    as_found_after s.args.v s.args.t.now s.args.a s.args.b c.matrix_between-m.ensures
    s.args.out.now _ _ s.args.start
    f.result c.tally-end.ensures.1 f.ensures
