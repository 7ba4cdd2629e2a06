-- The definitions compute, on symbols of docs/CONVENTIONS.md.
--
-- In order: Γ0(2), whose generator 1 is free and 2 is even: words that are reduced, words that aren't, one for each clause, and what they are reduced to; the
-- letter -2 has the value of 2 up to sign and is refused for its inverse alone; the word that the walk for (1 0; 2 1) writes is the reduced one; -2 -3,
-- whose generator 1 is even and 2 is odd.
-- Assumes nothing.
use mathlib.Core.Path.{◌≡◌, refl}
use mathlib.Core.Logic.{inr}
use mathlib.Core.List.{List, [], ◌∷◌}
use native.Mathlib.Omega.{arith}
use lib.IntN.{ℤ, pos, negsuc}
use Rattle.matrix.specs.Matrix.{mat, ◌⊗◌, 𝟙, neg, adj, mat_s, ◌≈◌}
use Rattle.pairing.specs.Generator.{generators}
use Rattle.pairing.specs.Subgroup.{value_of}
use Rattle.polygon.specs.Cut.{flip_of, under_zero}
use Rattle.polygon.specs.Step.{real, step_s, turn_q, written, start_of}
use Rattle.polygon.specs.Walk.{followed, walk_writes}
use Rattle.normal_forms.specs.Reduced.{letter_kind, Reduced}
use Rattle.normal_forms.specs.Reduce.{plain, inverse, put, reduce}
use Rattle.normal_forms.proofs.Put.{apart}
use Rattle.normal_forms.proofs.Clauses.{fine_reduced}

-- ---- Γ0(2)

abbrev gamma : List ℤ
gamma = pos 0 ∷ pos 1 ∷ pos 1 ∷ pos 1 ∷ pos 1 ∷ negsuc 1 ∷ pos 1 ∷ []

-- the empty word, 2 1, 1 1 and -1 2 -1
kept : Reduced 2 gamma [] × Reduced 2 gamma (pos 2 ∷ pos 1 ∷ []) × Reduced 2 gamma (pos 1 ∷ pos 1 ∷ []) × Reduced 2 gamma (negsuc 0 ∷ pos 2 ∷ negsuc 0 ∷ [])
unfolding letter_kind plain inverse apart
kept = (
  fine_reduced 2 gamma [] refl,
  fine_reduced 2 gamma (pos 2 ∷ pos 1 ∷ []) refl,
  fine_reduced 2 gamma (pos 1 ∷ pos 1 ∷ []) refl,
  fine_reduced 2 gamma (negsuc 0 ∷ pos 2 ∷ negsuc 0 ∷ []) refl,
)

-- 1 -1, 2 2 and -2
refused : (Reduced 2 gamma (pos 1 ∷ negsuc 0 ∷ []) → ⊥) × (Reduced 2 gamma (pos 2 ∷ pos 2 ∷ []) → ⊥) × (Reduced 2 gamma (negsuc 1 ∷ []) → ⊥)
unfolding letter_kind
refused = (
  (λ r. r.beside_inverse 0 (omega arith) refl),
  (λ r. r.even_repeated 0 (omega arith) refl refl),
  (λ r. r.even_inverted 0 (omega arith) refl tt),
)

-- -2 and 2
one_value : value_of (generators 2 gamma) (negsuc 1 ∷ []) ≈ value_of (generators 2 gamma) (pos 2 ∷ [])
unfolding ◌⊗◌ 𝟙 neg adj mat_s
one_value = inr refl

-- 1 -1 2 -2 is reduced to the empty word, 1 2 2 1 to 1 1, and -2 1 to 2 1
reductions : (reduce 2 gamma (pos 1 ∷ negsuc 0 ∷ pos 2 ∷ negsuc 1 ∷ []) ≡ []) × (reduce 2 gamma (pos 1 ∷ pos 2 ∷ pos 2 ∷ pos 1 ∷ []) ≡ pos 1 ∷ pos 1 ∷ [])
    × (reduce 2 gamma (negsuc 1 ∷ pos 1 ∷ []) ≡ pos 2 ∷ pos 1 ∷ [])
unfolding letter_kind plain inverse put reduce
reductions = (refl, refl, refl)

-- I to (1 0; 2 1)
walked : walk_writes 2 gamma (mat (pos 1) (pos 0) (pos 2) (pos 1)) ≡ pos 2 ∷ pos 1 ∷ []
unfolding flip_of under_zero start_of real step_s turn_q written followed
walked = refl

-- ---- -2 -3

abbrev whole : List ℤ
whole = pos 0 ∷ pos 1 ∷ negsuc 1 ∷ negsuc 2 ∷ []

-- 1 2 1 -2
kept_odd : Reduced 1 whole (pos 1 ∷ pos 2 ∷ pos 1 ∷ negsuc 1 ∷ [])
unfolding letter_kind plain inverse apart
kept_odd = fine_reduced 1 whole (pos 1 ∷ pos 2 ∷ pos 1 ∷ negsuc 1 ∷ []) refl

-- 2 2, -2 -2 and 2 -2
refused_odd : (Reduced 1 whole (pos 2 ∷ pos 2 ∷ []) → ⊥) × (Reduced 1 whole (negsuc 1 ∷ negsuc 1 ∷ []) → ⊥) × (Reduced 1 whole (pos 2 ∷ negsuc 1 ∷ []) → ⊥)
unfolding letter_kind
refused_odd = (
  (λ r. r.odd_repeated 0 (omega arith) refl refl),
  (λ r. r.odd_repeated 0 (omega arith) refl refl),
  (λ r. r.beside_inverse 0 (omega arith) refl),
)

-- 2 2 is reduced to -2, and 2 2 2 1 -1 1 to 1
reductions_odd : (reduce 1 whole (pos 2 ∷ pos 2 ∷ []) ≡ negsuc 1 ∷ []) × (reduce 1 whole (pos 2 ∷ pos 2 ∷ pos 2 ∷ pos 1 ∷ negsuc 0 ∷ pos 1 ∷ []) ≡ pos 1 ∷ [])
unfolding letter_kind plain inverse put reduce
reductions_odd = (refl, refl)
