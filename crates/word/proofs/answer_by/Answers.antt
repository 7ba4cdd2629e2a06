-- `answer_by` follows the matrix from a to b. Why: the walk along that matrix is the one that the definition of the answer makes (`as_found_after`).
-- Assumes nothing.
use native.Mathlib.Omega.{arith}
use Rattle.word.proofs.Finding.{ready, setting, as_found_after}
use Rattle.word.proofs.answer_by.Goals as goal

pub matrix_between-m-requires : goal.matrix_between-m-requires
matrix_between-m-requires c = (c.requires.0.prepared.tables.symbol, c.requires.0.entries_A, c.requires.0.entries_B)

pub tally_by-end-requires : goal.tally_by-end-requires
tally_by-end-requires c =
    let s = c in
    let q = ready s.requires.0 c.matrix_between-m.ensures in
    let h = setting q s.args.start 0 s.args.out.now (omega arith) in
    (q.prepared, s.requires.1, h.1, h.2, h.3)

pub find-requires : goal.find-requires
find-requires c = (
  ready c.requires.0
      c.matrix_between-m.ensures,
  c.tally_by-end.ensures.0,
)

pub returns : goal.returns
returns c =
    let s = c in
    let f = c.find in record {
      fills = as_found_after s.args.v s.args.t.now s.args.a s.args.b
          c.matrix_between-m.ensures s.args.out.now _ _ s.args.start
          f.result c.tally_by-end.ensures.1
          f.ensures;
      rounds = c.tally_by-end.ensures.2;
    }
