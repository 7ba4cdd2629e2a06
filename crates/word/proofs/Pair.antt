-- The pair of matrices: its entries by number, and what passing 8 and 9 says of it.
--
-- In order: entries (`entry_A`, `entry_B`), in a row (`first_in_row`); a pair with no large entry is small, and conversely
-- (`clear_small`, `small_clear`); determinants (`unit_is`, `is_unit`).
-- Assumes nothing.
use mathlib.Core.Path.{◌≡◌, refl, sym, ◌∙◌, ap}
use mathlib.Core.Bool.{Bool, true, false, not}
use mathlib.Core.List.{List, [], ◌++◌, append-nil}
use lib.ListN.{length, length-append, get_or-append}
use lib.Seq.{get_or-append-add}
use Prim.Native.Nat.{ℕ, zero, suc, ◌+◌, ◌-◌, ◌≤◌, ◌<◌}
use native.Mathlib.Omega.{arith}
use native.Mathlib.Decide.{dec_lt}
use lib.Dec.{leb, ltb}
use lib.IntN.{ℤ, pos, nat_abs}
use borrow.Author.Tests.{lt-ltb, le-ltb, le-leb, leb-true, not-false}
use Rattle.matrix.specs.Matrix.{nth, of_list, det}
use Rattle.matrix.specs.Bounds.{Small}
use Rattle.symbol.proofs.Choice.{eq_z_true, eq_eq_z}
use Rattle.basics.proofs.Choice.{pick_true, pick_false}
use Rattle.basics.specs.Choice.{pick}
use Rattle.basics.specs.Count.{first}
use Rattle.basics.proofs.Count.{Clear}
use Rattle.word.specs.Answer.{entry_at, beyond, large, unit}

module _ (a b : List ℤ) (i : ℕ) where
  pub entry_A : i < 4 → nth a i ≡ entry_at a b i
  entry_A h = sym (pick_true (ltb i 4) (nth a i) (nth b (i - 4)) (lt-ltb i 4 h))

  pub entry_B : 4 ≤ i → nth b (i - 4) ≡ entry_at a b i
  entry_B h = sym (pick_false (ltb i 4) (nth a i) (nth b (i - 4)) (le-ltb i 4 h))

  within : large a b i ≡ false → nat_abs (entry_at a b i) ≤ 1000000
  within e = leb-true (nat_abs (entry_at a b i)) 1000000 (not-false (leb (nat_abs (entry_at a b i)) 1000000) e)

  small : nat_abs (entry_at a b i) ≤ 1000000 → large a b i ≡ false
  small h = ap not (le-leb (nat_abs (entry_at a b i)) 1000000 h)

-- ---- the pair as its eight entries in a row

first_same : (f g : ℕ → Bool) (n : ℕ) → ((i : ℕ) → i < n → f i ≡ g i) → first f n ≡ first g n
first_same f g zero h = refl
first_same f g (suc n) h =
    ap (λ (k : ℕ). pick (ltb k n) k (pick (f n) n (suc n))) (first_same f g n (λ i l. h i (omega arith)))
    ∙ ap (λ (b : Bool). pick (ltb (first g n) n) (first g n) (pick b n (suc n))) (h n (omega arith))

module _ (a b : List ℤ) (la : length a ≡ 4) (lb : length b ≡ 4) where
  abbrev row : List ℤ
  row = a ++ (b ++ [])

  in_row : (i : ℕ) → nth row i ≡ entry_at a b i
  in_row i = elim (dec_lt i 4) [
    | yes l ↦ get_or-append a (b ++ []) (pos 0) i (omega arith) ∙ entry_A a b i l
    | no l ↦ let z : i ≡ length a + (i - 4) = omega arith in
        ap (nth row) z ∙ get_or-append-add a (b ++ []) (i - 4) (pos 0) ∙ ap (λ (m : List ℤ). nth m (i - 4)) (append-nil b)
        ∙ entry_B a b i (omega arith)
  ]

  pub first_in_row : first (beyond 1000000 row) (length row) ≡ first (large a b) 8
  first_in_row =
      let eight : length row ≡ 8 = omega (arith, length-append a (b ++ []), ap length (append-nil b)) in
      ap (first (beyond 1000000 row)) eight
      ∙ first_same (beyond 1000000 row) (large a b) 8 (λ i h. ap (λ (x : ℤ). not (leb (nat_abs x) 1000000)) (in_row i))

-- ---- a small pair

module _ (a b : List ℤ) where
  in_A : Clear (large a b) 8 → (i : ℕ) → i < 4 → nat_abs (nth a i) ≤ 1000000
  in_A c i h = rw (entry_A a b i h) (within a b i (c.none i (omega arith)))

  -- its place in the pair is j
  in_B : Clear (large a b) 8 → (i j : ℕ) → j - 4 ≡ i → 4 ≤ j → j < 8 → nat_abs (nth b i) ≤ 1000000
  in_B c i j e h k = let z : nth b i ≡ entry_at a b j = ap (nth b) (sym e) ∙ entry_B a b j h in rw z (within a b j (c.none j k))

  pub clear_small : Clear (large a b) 8 → Small 1000000 (of_list a) × Small 1000000 (of_list b)
  clear_small c = (
    record { in_a = in_A c 0 (omega arith); in_b = in_A c 1 (omega arith); in_c = in_A c 2 (omega arith); in_d = in_A c 3 (omega arith) },
    record {
      in_a = in_B c 0 4 (omega arith) (omega arith) (omega arith);
      in_b = in_B c 1 5 (omega arith) (omega arith) (omega arith);
      in_c = in_B c 2 6 (omega arith) (omega arith) (omega arith);
      in_d = in_B c 3 7 (omega arith) (omega arith) (omega arith);
    },
  )

pub small_at : (h : ℕ) (m : List ℤ) → Small h (of_list m) → (i : ℕ) → i < 4 → nat_abs (nth m i) ≤ h
small_at h m s zero l = s.in_a
small_at h m s (suc zero) l = s.in_b
small_at h m s (suc (suc zero)) l = s.in_c
small_at h m s (suc (suc (suc zero))) l = s.in_d
small_at h m s (suc (suc (suc (suc i)))) l = absurd (omega arith)

pub small_clear : (a b : List ℤ) → Small 1000000 (of_list a) → Small 1000000 (of_list b) → Clear (large a b) 8
small_clear a b s u = record {
  none = λ i h. small a b i
      (elim (dec_lt i 4) [
        | yes l ↦ rw (sym (entry_A a b i l)) (small_at 1000000 a s i l)
        | no l ↦ rw (sym (entry_B a b i (omega arith))) (small_at 1000000 b u (i - 4) (omega arith))
      ]);
}

-- ---- determinants

pub unit_is : (m : List ℤ) → unit m ≡ true → det (of_list m) ≡ pos 1
unit_is m e = eq_z_true (det (of_list m)) (pos 1) e

pub is_unit : (m : List ℤ) → det (of_list m) ≡ pos 1 → unit m ≡ true
is_unit m e = eq_eq_z (det (of_list m)) (pos 1) e
