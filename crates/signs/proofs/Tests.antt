-- The signs compute, on the instances of request 2026-05 and on symbols of docs/CONVENTIONS.md.
--
-- In order: matrices and their alternating words; Γ0(2), where I to -T is the word 1 with minus, I to -I the empty word with minus and I to T the
-- word 1 with plus; the vertex 0/1 alone, with the start upright, with the start turned round, and with an odd last side that a walk crosses; Γ(2),
-- with the inverse of a generator.
-- Assumes nothing.
use mathlib.Core.Path.{◌≡◌, refl}
use mathlib.Core.List.{List, [], ◌∷◌}
use lib.IntN.{ℤ, pos, negsuc}
use Rattle.matrix.specs.Matrix.{Mat, mat, ◌⊗◌, 𝟙, neg, adj, mat_s, mat_t, mat_q}
use Rattle.matrix.specs.Action.{at}
use Rattle.polygon.specs.Cut.{flip_of, under_zero}
use Rattle.polygon.specs.Step.{real, step_s, turn_q, written, start_of}
use Rattle.polygon.specs.Walk.{followed, walk_ends, walk_writes}
use Rattle.signs.specs.Sign.{plus, minus, matrix_sign}
use Rattle.signs.specs.Step.{left_to_right, frame_sign, step_sign, query_sign}

-- ---- matrices

alone : (matrix_sign 𝟙 ≡ plus) × (matrix_sign (neg 𝟙) ≡ minus) × (matrix_sign mat_s ≡ plus) × (matrix_sign (neg mat_s) ≡ minus) × (matrix_sign mat_t ≡ plus)
unfolding matrix_sign 𝟙 neg mat_s mat_t
alone = (refl, refl, refl, refl, refl)

-- ---- Γ0(2)

abbrev gamma : List ℤ
gamma = pos 0 ∷ pos 1 ∷ pos 1 ∷ pos 1 ∷ pos 1 ∷ negsuc 1 ∷ pos 1 ∷ []

-- I to -T
minus_T : (walk_ends 2 gamma (neg mat_t ⊗ adj 𝟙) ≡ start_of 2 gamma) × (walk_writes 2 gamma (neg mat_t ⊗ adj 𝟙) ≡ pos 1 ∷ [])
    × (query_sign 2 gamma (neg mat_t ⊗ adj 𝟙) ≡ minus)
unfolding flip_of under_zero start_of real step_s turn_q written followed at left_to_right frame_sign step_sign query_sign matrix_sign ◌⊗◌ adj neg 𝟙 mat_t
minus_T = (refl, refl, refl)

-- I to -I
minus_I : (walk_ends 2 gamma (neg 𝟙 ⊗ adj 𝟙) ≡ start_of 2 gamma) × (walk_writes 2 gamma (neg 𝟙 ⊗ adj 𝟙) ≡ [])
    × (query_sign 2 gamma (neg 𝟙 ⊗ adj 𝟙) ≡ minus)
unfolding flip_of under_zero start_of real step_s turn_q written followed at left_to_right frame_sign step_sign query_sign matrix_sign ◌⊗◌ adj neg 𝟙
minus_I = (refl, refl, refl)

-- I to T
plus_T : (walk_ends 2 gamma (mat_t ⊗ adj 𝟙) ≡ start_of 2 gamma) × (walk_writes 2 gamma (mat_t ⊗ adj 𝟙) ≡ pos 1 ∷ [])
    × (query_sign 2 gamma (mat_t ⊗ adj 𝟙) ≡ plus)
unfolding flip_of under_zero start_of real step_s turn_q written followed at left_to_right frame_sign step_sign query_sign matrix_sign ◌⊗◌ adj 𝟙 mat_t
plus_T = (refl, refl, refl)

-- I to I; I to (1 0; 2 1), which is 2 1; S to (1 -1; 1 0), which is 1
plus_more : (query_sign 2 gamma 𝟙 ≡ plus) × (query_sign 2 gamma (mat (pos 1) (pos 0) (pos 2) (pos 1)) ≡ plus)
    × (query_sign 2 gamma (mat (pos 1) (negsuc 0) (pos 1) (pos 0) ⊗ adj mat_s) ≡ plus)
unfolding flip_of under_zero start_of real step_s turn_q written followed left_to_right frame_sign step_sign query_sign matrix_sign ◌⊗◌ adj 𝟙 mat_s
plus_more = (refl, refl, refl)

-- ---- one vertex

-- -2 -3: I to S and to -S is the even generator
abbrev whole : List ℤ
whole = pos 0 ∷ pos 1 ∷ negsuc 1 ∷ negsuc 2 ∷ []

whole_S : (walk_writes 1 whole mat_s ≡ pos 1 ∷ []) × (query_sign 1 whole mat_s ≡ plus) × (query_sign 1 whole (neg mat_s) ≡ minus)
unfolding flip_of under_zero start_of real step_s turn_q written followed left_to_right frame_sign step_sign query_sign matrix_sign neg mat_s
whole_S = (refl, refl, refl)

-- T is Q⁻¹ S: the inverse of the odd generator, and then the even one
whole_T : (walk_writes 1 whole mat_t ≡ negsuc 1 ∷ pos 1 ∷ []) × (query_sign 1 whole mat_t ≡ plus)
unfolding flip_of under_zero start_of real step_s turn_q written followed left_to_right frame_sign step_sign query_sign matrix_sign mat_t
whole_T = (refl, refl)

-- -3 -2, turned round
abbrev turned : List ℤ
turned = pos 0 ∷ pos 1 ∷ negsuc 2 ∷ negsuc 1 ∷ []

turned_S : (walk_writes 1 turned mat_s ≡ pos 2 ∷ []) × (query_sign 1 turned mat_s ≡ plus) × (query_sign 1 turned (neg mat_s) ≡ minus)
unfolding flip_of under_zero start_of real step_s turn_q written followed left_to_right frame_sign step_sign query_sign matrix_sign ◌⊗◌ neg adj mat_s
turned_S = (refl, refl, refl)

-- Q is S⁻¹ (S Q S⁻¹) S, and so minus the word 2 1 2
turned_Q : (walk_writes 1 turned mat_q ≡ pos 2 ∷ pos 1 ∷ pos 2 ∷ []) × (query_sign 1 turned mat_q ≡ minus)
unfolding flip_of under_zero start_of real step_s turn_q written followed left_to_right frame_sign step_sign query_sign matrix_sign ◌⊗◌ adj mat_s mat_q
turned_Q = (refl, refl)

-- -3 -3: from the outer face of the last side to that of the first, and back
abbrev odds : List ℤ
odds = pos 0 ∷ pos 1 ∷ negsuc 2 ∷ negsuc 2 ∷ []

odds_1 : (walk_writes 1 odds (mat_s ⊗ mat_q ⊗ adj mat_s) ≡ pos 1 ∷ []) × (query_sign 1 odds (mat_s ⊗ mat_q ⊗ adj mat_s) ≡ plus)
unfolding flip_of under_zero start_of real step_s turn_q written followed left_to_right frame_sign step_sign query_sign matrix_sign ◌⊗◌ adj mat_s mat_q
odds_1 = (refl, refl)

-- ---- Γ(2)

abbrev gamma2 : List ℤ
gamma2 = pos 0 ∷ pos 1 ∷ pos 1 ∷ pos 1 ∷ pos 2 ∷ pos 1 ∷ pos 1 ∷ pos 2 ∷ pos 2 ∷ pos 1 ∷ []

-- the generators (1 2; 0 1) and (3 -2; 2 -1), and the product of the inverse of the second with the first
abbrev product : Mat
product = mat (negsuc 0) (pos 0) (negsuc 1) (negsuc 0)

generators_2 : (query_sign 3 gamma2 (mat (pos 1) (pos 2) (pos 0) (pos 1)) ≡ plus)
    × (query_sign 3 gamma2 (mat (pos 3) (negsuc 1) (pos 2) (negsuc 0)) ≡ plus)
    × (walk_writes 3 gamma2 product ≡ negsuc 1 ∷ pos 1 ∷ []) × (query_sign 3 gamma2 product ≡ plus)
unfolding flip_of under_zero start_of real step_s turn_q written followed left_to_right frame_sign step_sign query_sign matrix_sign
generators_2 = (refl, refl, refl, refl)
