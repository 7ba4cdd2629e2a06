-- Sides of entries in range are small (`side_small`).
-- Assumes nothing.
use mathlib.Core.Path.{◌≡◌}
use mathlib.Core.Bool.{false}
use mathlib.Core.List.{List}
use Prim.Native.Nat.{ℕ, ◌+◌, ◌*◌, ◌-◌, ◌<◌, ◌≤◌}
use native.Mathlib.Omega.{arith}
use native.Mathlib.Decide.{dec_lt, ℕ_discrete}
use lib.Dec.{lit≤}
use lib.IntN.{ℤ, nat_abs}
use Rattle.matrix.specs.Matrix.{nth}
use Rattle.symbol.specs.Table.{left_num, left_den, right_num, right_den, side_at}
use Rattle.symbol.specs.Check.{out_of_range}
use Rattle.symbol.specs.Inner.Ready.{SmallSide}
use Rattle.symbol.proofs.Accepted.{in_range}
use Rattle.symbol.proofs.Sides.{left_first, left_later, right_inside, right_last}

-- the ends of a side are 0, 1, -1 or vertex entries
pub side_small : (v : ℕ) (t : List ℤ) → ((i : ℕ) → i < 2 * v → out_of_range t i ≡ false) → (i : ℕ) → i ≤ v → SmallSide (side_at v t i)
side_small v t r i h = go (ℕ_discrete i 0) (dec_lt i v)
  where
    entry : (k : ℕ) → k < 2 * v → nat_abs (nth t k) ≤ 1000000000
    entry k l = (in_range v t k (r k l)).0

    left : Dec (i ≡ 0) → (nat_abs (left_num t i) ≤ 1000000000) × (nat_abs (left_den t i) ≤ 1000000000)
    left (yes e) = let k = left_first t i e in rw (k.0, k.1) (lit≤ tt, lit≤ tt)
    left (no e) = let k = left_later t i e in rw (k.0, k.1) (entry (2 * (i - 1)) (omega arith), entry (2 * (i - 1) + 1) (omega arith))

    right : Dec (i < v) → (nat_abs (right_num v t i) ≤ 1000000000) × (nat_abs (right_den v t i) ≤ 1000000000)
    right (yes l) = let k = right_inside v t i l in rw (k.0, k.1) (entry (2 * i) (omega arith), entry (2 * i + 1) (omega arith))
    right (no l) = let k = right_last v t i (omega arith) in rw (k.0, k.1) (lit≤ tt, lit≤ tt)

    go : Dec (i ≡ 0) → Dec (i < v) → SmallSide (side_at v t i)
    go d e = let a = left d in let b = right e in record { in_a = b.0; in_b = a.0; in_c = b.1; in_d = a.1 }
