-- Tables with the same vertex entries have the same sides: `side_same`, part by part, with the frames that follow (`frame_same`).
-- Assumes nothing.
use mathlib.Core.Path.{◌≡◌, refl, sym, ◌∙◌, ap}
use mathlib.Core.List.{List}
use Prim.Native.Nat.{ℕ, zero, suc, ◌+◌, ◌*◌, ◌<◌, ◌≤◌}
use native.Mathlib.Omega.{arith}
use native.Mathlib.Decide.{dec_lt}
use lib.Dec.{ltb}
use lib.IntN.{ℤ, pos}
use borrow.Author.Tests.{le-ltb}
use Rattle.matrix.specs.Matrix.{nth}
use Rattle.basics.specs.Choice.{pick}
use Rattle.basics.proofs.Choice.{pick_false}
use Rattle.symbol.specs.Table.{left_num, left_den, right_num, right_den, side, side_at, frame}

module _ (v : ℕ) (t t' : List ℤ) (same : (i : ℕ) → i < 2 * v → nth t i ≡ nth t' i) where
  left_num_lem : (i : ℕ) → i ≤ v → left_num t i ≡ left_num t' i
  left_num_lem zero h = refl
  left_num_lem (suc i) h = same (2 * i) (omega arith)

  left_den_lem : (i : ℕ) → i ≤ v → left_den t i ≡ left_den t' i
  left_den_lem zero h = refl
  left_den_lem (suc i) h = same (2 * i + 1) (omega arith)

  -- the entry k of a vertex, or x after the last one
  right_entry : (i k : ℕ) (x : ℤ) → (i < v → k < 2 * v) → pick (ltb i v) (nth t k) x ≡ pick (ltb i v) (nth t' k) x
  right_entry i k x low = elim (dec_lt i v) [
    | yes l ↦ ap (λ (z : ℤ). pick (ltb i v) z x) (same k (low l))
    | no l ↦ let e = le-ltb i v (omega arith) in pick_false (ltb i v) (nth t k) x e ∙ sym (pick_false (ltb i v) (nth t' k) x e)
  ]

  pub side_same : (i : ℕ) → i ≤ v → side_at v t i ≡ side_at v t' i
  side_same i h =
      let a = left_num t' i in
      let b = left_den t' i in
      let c = right_num v t' i in
      ap (λ (x : ℤ). side x (left_den t i) (right_num v t i) (right_den v t i)) (left_num_lem i h)
      ∙ ap (λ (x : ℤ). side a x (right_num v t i) (right_den v t i)) (left_den_lem i h)
      ∙ ap (λ (x : ℤ). side a b x (right_den v t i)) (right_entry i (2 * i) (pos 1) (λ l. omega arith))
      ∙ ap (λ (x : ℤ). side a b c x) (right_entry i (2 * i + 1) (pos 0) (λ l. omega arith))

  pub frame_same : (i : ℕ) → i ≤ v → frame (side_at v t i) ≡ frame (side_at v t' i)
  frame_same i h = ap frame (side_same i h)
