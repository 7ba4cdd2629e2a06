-- `word_along` follows the matrix. Why: the walk along it is the one that the definition of the answer makes (`as_one`). Assumes nothing.
use native.Mathlib.Omega.{arith}
use Rattle.word.proofs.Finding.{setting}
use Rattle.matrix_word.proofs.Along.{along_ready, as_one}
use Rattle.matrix_word.proofs.word_along.Goals as goal

pub matrix_along-along-requires : goal.matrix_along-along-requires
matrix_along-along-requires c = (c.requires.prepared.tables.symbol, c.requires.entries)

pub tally-end-requires : goal.tally-end-requires
tally-end-requires c =
    let s = c in
    let q = along_ready c.matrix_along-along.result s.requires c.matrix_along-along.ensures in
    let h = setting q s.args.start 0 s.args.out.now (omega arith) in
    (q.prepared, h.1, h.2, h.3)

pub find-requires : goal.find-requires
find-requires c = (
  along_ready c.matrix_along-along.result c.requires
      c.matrix_along-along.ensures,
  c.tally-end.ensures.0,
)

pub returns : goal.returns
returns c =
    let s = c in
    let f = c.find in
    as_one s.args.v s.args.t.now s.args.m c.matrix_along-along.result
    c.matrix_along-along.ensures
    s.args.out.now _ _ s.args.start
    f.result c.tally-end.ensures.1 f.ensures
