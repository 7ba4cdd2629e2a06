-- `comes_home` asks where the walk ends (`told`, `home_by`). Assumes nothing.
use native.Mathlib.Omega.{arith}
use mathlib.Core.List.{[]}
use Rattle.word.proofs.Finding.{setting}
use Rattle.matrix_word.proofs.Along.{along_ready, home_by}
use Rattle.matrix_word.proofs.comes_home.Goals as goal

pub tally-end-requires : goal.tally-end-requires
tally-end-requires c =
    let s = c in
    let q = along_ready c.matrix_along-along.result s.requires c.matrix_along-along.ensures in
    let h = setting q 0 0 [] (omega arith) in
    (q.prepared, h.1, h.2, h.3)

pub returns : goal.returns
returns c =
    let a = c.matrix_along-along in
    let s = c in
    home_by a.result s.requires a.ensures c.tally-end.ensures.0
