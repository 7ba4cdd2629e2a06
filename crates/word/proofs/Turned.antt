-- Following S⁻¹ m S instead of m: it has small entries, and a word with at most two letters more.
--
-- In order: a word doesn't get longer where it is made alternating (`length_reduce`); the matrix that is followed (`followed_by`, `followed_small`); its word
-- (`followed_length`).
--
-- Why: the word of m between two letters S has that matrix, and it becomes alternating by crossing out.
-- Assumes nothing.
use mathlib.Core.Path.{◌≡◌, refl, ◌∙◌, ap, subst}
use mathlib.Core.Logic.{inl, inr}
use mathlib.Core.List.{List, [], ◌∷◌, ◌++◌}
use Prim.Native.Nat.{ℕ, suc, ◌+◌, ◌*◌, ◌^◌, ◌≤◌}
use native.Mathlib.Omega.{arith}
use lib.Dec.{lit≤}
use lib.ListN.{length, length-append}
use lib.IntN.{ℤ, pos}
use Rattle.matrix.specs.Matrix.{Mat, ◌⊗◌, neg, adj, det, mat_s, ◌≈◌}
use Rattle.matrix.specs.Words.{Letter, S, Q, P, value}
use Rattle.matrix.specs.Euclid.{word_of}
use Rattle.matrix.specs.Bounds.{Small}
use Rattle.matrix.proofs.Matrix.{⊗-idr, det_adj, det_letter, det_one, ≈-sym, ◌∙≈◌, ≈-both}
use Rattle.matrix.proofs.Bounds.{small_more, small_adj, small-⊗}
use Rattle.matrix.proofs.Action.{pre, reduce, reduce_alternating, reduce_value, value-++}
use Rattle.matrix.proofs.Uniqueness.{uniqueness}
use Rattle.matrix.proofs.Existence.{existence}
use Rattle.basics.proofs.Choice.{either}
use Rattle.coset.specs.Positions.{turned, followed, Positions}

-- ---- crossing out

length_pre : (x : Letter) (l : List Letter) → length (pre x l) ≤ suc (length l)
length_pre S [] = omega arith
length_pre S (S ∷ l) = omega arith
length_pre S (Q ∷ l) = omega arith
length_pre S (P ∷ l) = omega arith
length_pre Q [] = omega arith
length_pre Q (S ∷ l) = omega arith
length_pre Q (Q ∷ l) = omega arith
length_pre Q (P ∷ l) = omega arith
length_pre P [] = omega arith
length_pre P (S ∷ l) = omega arith
length_pre P (Q ∷ l) = omega arith
length_pre P (P ∷ l) = omega arith

pub length_reduce : (l : List Letter) → length (reduce l) ≤ length l
length_reduce [] = omega arith
length_reduce (x ∷ l) = omega (arith, length_pre x (reduce l), length_reduce l)

-- ---- the matrix that is followed

-- what holds of m and of S⁻¹ m S holds of it
pub followed_by : {v : ℕ} {t : List ℤ} → Positions v t → (m : Mat) (F : Mat → Type 0) → F (adj mat_s ⊗ (m ⊗ mat_s)) → F m → F (followed v t m)
followed_by {v} {t} g m F f h =
    elim (either (turned v t)) [ inl e ↦ subst F (g.followed_round m e) f | inr e ↦ subst F (g.followed_upright m e) h ]

pub S_small : Small 1 mat_s
unfolding mat_s
S_small = record { in_a = lit≤ tt; in_b = lit≤ tt; in_c = lit≤ tt; in_d = lit≤ tt }

pub followed_small : {v : ℕ} {t : List ℤ} → Positions v t → (m : Mat) → Small (2 * (1000000 * 1000000)) m → Small (2 ^ 60) (followed v t m)
followed_small g m s = followed_by g m (λ (n : Mat). Small (2 ^ 60) n)
    (small_more (2 * (1 * (2 * (2 * (1000000 * 1000000) * 1)))) (2 ^ 60) (adj mat_s ⊗ (m ⊗ mat_s)) (lit≤ tt)
    (small-⊗ 1 (2 * (2 * (1000000 * 1000000) * 1)) (adj mat_s) (m ⊗ mat_s) (small_adj 1 mat_s S_small) (small-⊗ (2 * (1000000 * 1000000)) 1 m mat_s s S_small)))
    (small_more (2 * (1000000 * 1000000)) (2 ^ 60) m (lit≤ tt) s)

-- ---- its word

adj_S : adj mat_s ≈ mat_s
unfolding adj mat_s neg
adj_S = inr refl

module _ (m : Mat) (d : det m ≡ pos 1) where
  -- the word of m between two letters S
  abbrev between : List Letter
  between = S ∷ (word_of m ++ (S ∷ []))

  between_value : value between ≈ adj mat_s ⊗ (m ⊗ mat_s)
  between_value =
      inl (ap (λ (x : Mat). mat_s ⊗ x) (value-++ (word_of m) (S ∷ [])))
      ∙≈ ≈-both (≈-sym adj_S) (≈-both (existence m d).1 (inl (⊗-idr mat_s)))

  around_unit : det (adj mat_s ⊗ (m ⊗ mat_s)) ≡ pos 1
  around_unit = det_one (adj mat_s) (m ⊗ mat_s) (det_adj mat_s ∙ det_letter S) (det_one m mat_s d (det_letter S))

  around_length : length (word_of (adj mat_s ⊗ (m ⊗ mat_s))) ≤ length (word_of m) + 2
  around_length =
      let n = adj mat_s ⊗ (m ⊗ mat_s) in
      let k = existence n around_unit in
      let same : word_of n ≡ reduce between = uniqueness (word_of n) (reduce between) k.0 (reduce_alternating between)
      (k.1 ∙≈ ≈-sym (reduce_value between ∙≈ between_value)) in
      omega (arith, ap length same, length_reduce between, length-append (word_of m) (S ∷ []))

  pub followed_length : {v : ℕ} {t : List ℤ} → Positions v t → length (word_of (followed v t m)) ≤ length (word_of m) + 2
  followed_length g = followed_by g m (λ (n : Mat). length (word_of n) ≤ length (word_of m) + 2) around_length (omega arith)
