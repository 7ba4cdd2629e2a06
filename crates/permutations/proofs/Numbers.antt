-- THE NUMBERS OF THE CHECKS: those of a pair of permutations refuse with 12 to 15 (`pairs_among`).
-- Assumes nothing.
use mathlib.Core.Bool.{not, ◌&&◌}
use mathlib.Core.List.{List}
use Prim.Native.Nat.{ℕ}
use native.Mathlib.Omega.{arith}
use lib.Dec.{ltb, leb, eqb}
use lib.ListN.{length}
use Rattle.basics.specs.Count.{first}
use Rattle.call.specs.Refusal.{◌or_else◌}
use Rattle.call.specs.declared.refusal.Refusal.TheVariants.{PointCount, TableEntry, WrongOrder, Unreached}
use Rattle.call.proofs.Numbered.{Among, among_first}
use Rattle.symbol.proofs.Accepted.{among_refuse}
use Rattle.permutations.specs.Check.{check12, bad_entry, check13, twice_moved, thrice_moved, check14, not_reached, check15, pair_check}

pub pairs_among : (s r : List ℕ) → Among 12 15 (pair_check s r)
pairs_among s r =
    let n = length s in
    let i = first (bad_entry s) n in
    let j = first (bad_entry r) (length r) in
    let x = first (twice_moved s) n in
    let y = first (thrice_moved r) (length r) in
    let z = first (not_reached s r) n in
    let c15 = check15 s r in
    let c14 = check14 thrice_moved r or_else c15 in
    let c14' = check14 twice_moved s or_else c14 in
    let c13 = check13 r or_else c14' in
    let c13' = check13 s or_else c13 in
    among_first 12 15 (check12 s r) c13' (among_refuse 12 15 (not (leb 1 n && leb n 3066 && eqb (length r) n)) PointCount (omega arith) (omega arith))
    (among_first 12 15 (check13 s) c13 (among_refuse 12 15 (ltb i n) (TableEntry i) (omega arith) (omega arith))
    (among_first 12 15 (check13 r) c14' (among_refuse 12 15 (ltb j (length r)) (TableEntry j) (omega arith) (omega arith))
    (among_first 12 15 (check14 twice_moved s) c14 (among_refuse 12 15 (ltb x n) (WrongOrder x) (omega arith) (omega arith))
    (among_first 12 15 (check14 thrice_moved r) c15 (among_refuse 12 15 (ltb y (length r)) (WrongOrder y) (omega arith) (omega arith))
    (among_refuse 12 15 (ltb z n) (Unreached z) (omega arith) (omega arith))))))
