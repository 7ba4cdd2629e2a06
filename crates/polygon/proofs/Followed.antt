-- The matrix that the walk follows: m itself, or S⁻¹ m S where the start is turned round.
--
-- In order: which of the two it is (`followed_turned`, `followed_upright`); what both have, it has (`followed_by`); its determinant is 1 (`followed_unit`).
-- Assumes nothing.
use mathlib.Core.Path.{◌≡◌, sym, ◌∙◌, subst}
use mathlib.Core.Logic.{inl, inr}
use mathlib.Core.Bool.{true, false}
use mathlib.Core.List.{List}
use Prim.Native.Nat.{ℕ}
use lib.IntN.{ℤ, pos}
use Rattle.matrix.specs.Matrix.{Mat, ◌⊗◌, adj, det, mat_s}
use Rattle.matrix.specs.Words.{S}
use Rattle.matrix.proofs.Matrix.{det_adj, det_letter, det_one}
use Rattle.basics.proofs.Choice.{either, pick_true, pick_false}
use Rattle.polygon.specs.Step.{turned}
use Rattle.polygon.specs.Walk.{followed}

module _ (v : ℕ) (t : List ℤ) (m : Mat) where
  pub followed_turned : turned v t ≡ true → adj mat_s ⊗ (m ⊗ mat_s) ≡ followed v t m
  unfolding followed
  followed_turned e = sym (pick_true (turned v t) (adj mat_s ⊗ (m ⊗ mat_s)) m e)

  pub followed_upright : turned v t ≡ false → m ≡ followed v t m
  unfolding followed
  followed_upright e = sym (pick_false (turned v t) (adj mat_s ⊗ (m ⊗ mat_s)) m e)

-- what holds of m and of S⁻¹ m S holds of the matrix that is followed
module _ (v : ℕ) (t : List ℤ) (m : Mat) (F : Mat → Type 0) where
  pub followed_by : F (adj mat_s ⊗ (m ⊗ mat_s)) → F m → F (followed v t m)
  followed_by f g = elim (either (turned v t)) [ inl e ↦ subst F (followed_turned v t m e) f | inr e ↦ subst F (followed_upright v t m e) g ]

pub around_unit : (m : Mat) → det m ≡ pos 1 → det (adj mat_s ⊗ (m ⊗ mat_s)) ≡ pos 1
around_unit m d = det_one (adj mat_s) (m ⊗ mat_s) (det_adj mat_s ∙ det_letter S) (det_one m mat_s d (det_letter S))

pub followed_unit : (v : ℕ) (t : List ℤ) (m : Mat) → det m ≡ pos 1 → det (followed v t m) ≡ pos 1
followed_unit v t m d = followed_by v t m (λ (n : Mat). det n ≡ pos 1) (around_unit m d) d
