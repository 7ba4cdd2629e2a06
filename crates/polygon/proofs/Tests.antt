-- The definitions compute, on symbols of docs/CONVENTIONS.md.
--
-- In order: Γ0(2), with the vertices 0/1 and 1/1 and the pairings 1 -2 1: one triangle, whose corners are 0, 1 and 2, and the outer faces 3, 4 and 5;
-- the symbols with the vertex 0/1 alone, and of an odd side that it turns about the point outside the polygon; Γ(2), with two triangles.
-- Assumes nothing.
use mathlib.Core.Path.{◌≡◌, refl, ap}
use mathlib.Core.Logic.{inl, inr}
use mathlib.Core.List.{List, [], ◌∷◌}
use Prim.Native.Nat.{ℕ}
use native.Mathlib.Omega.{arith}
use lib.IntN.{ℤ, pos, negsuc, nat_abs, ◌+ℤ◌}
use Rattle.matrix.specs.Matrix.{Mat, mat, ◌⊗◌, 𝟙, neg, adj, mat_s, mat_t, mat_r, mat_q, ◌≈◌}
use Rattle.matrix.specs.Action.{at}
use Rattle.basics.specs.Count.{count}
use Rattle.symbol.specs.Table.{carried}
use Rattle.pairing.specs.Generator.{frame_at, generator}
use Rattle.polygon.specs.Cut.{places, flip_of, under_zero}
use Rattle.polygon.specs.Step.{real, step_s, turn_q, written, start_of, origin_of}
use Rattle.polygon.specs.Walk.{followed, walk_ends, walk_writes}

abbrev gamma : List ℤ
gamma = pos 0 ∷ pos 1 ∷ pos 1 ∷ pos 1 ∷ pos 1 ∷ negsuc 1 ∷ pos 1 ∷ []

flips : flip_of 2 gamma ≡ 5 ∷ 3 ∷ 4 ∷ 1 ∷ 2 ∷ 0 ∷ []
unfolding flip_of
flips = refl

start : start_of 2 gamma ≡ 1
unfolding flip_of under_zero start_of
start = refl

-- T is a generator
walk_T : (walk_ends 2 gamma mat_t ≡ 1) × (walk_writes 2 gamma mat_t ≡ pos 1 ∷ [])
unfolding flip_of under_zero start_of real step_s turn_q written followed at mat_t
walk_T = (refl, refl)

-- (1 0; 2 1) is the product of the second generator and the first
walk_both : (walk_ends 2 gamma (mat (pos 1) (pos 0) (pos 2) (pos 1)) ≡ 1) × (walk_writes 2 gamma (mat (pos 1) (pos 0) (pos 2) (pos 1)) ≡ pos 2 ∷ pos 1 ∷ [])
unfolding flip_of under_zero start_of real step_s turn_q written followed at
walk_both = (refl, refl)

-- the identity is the empty word, and so is its negative
walk_one : (walk_ends 2 gamma 𝟙 ≡ 1) × (walk_writes 2 gamma 𝟙 ≡ []) × (walk_writes 2 gamma (neg 𝟙) ≡ [])
unfolding flip_of under_zero start_of real step_s turn_q written followed at 𝟙 neg
walk_one = (refl, refl, refl)

-- S is not in the group
walk_S : walk_ends 2 gamma mat_s ≡ 0
unfolding flip_of under_zero start_of real step_s turn_q written followed at mat_s
walk_S = refl

-- -2 -3: the whole group; S out through the even side writes its generator
abbrev whole : List ℤ
whole = pos 0 ∷ pos 1 ∷ negsuc 1 ∷ negsuc 2 ∷ []

walk_whole : (start_of 1 whole ≡ 1) × (walk_ends 1 whole mat_s ≡ 1) × (walk_writes 1 whole mat_s ≡ pos 1 ∷ [])
unfolding flip_of under_zero start_of real step_s turn_q written followed at mat_s
walk_whole = (refl, refl, refl)

-- -3 -2: the last side starts at 0/1 and is not odd, so the walk starts under it
abbrev turned : List ℤ
turned = pos 0 ∷ pos 1 ∷ negsuc 2 ∷ negsuc 1 ∷ []

walk_turned : (start_of 1 turned ≡ 0) × (origin_of 1 turned ≡ 0) × (walk_writes 1 turned mat_s ≡ pos 2 ∷ [])
unfolding flip_of under_zero start_of origin_of real step_s turn_q written followed at ◌⊗◌ adj mat_s
walk_turned = (refl, refl, refl)

-- -3 -3: two positions, which S exchanges and Q fixes
abbrev odds : List ℤ
odds = pos 0 ∷ pos 1 ∷ negsuc 2 ∷ negsuc 2 ∷ []

index_odds : (count (real 1 odds) (places 1) ≡ 2) × (step_s 1 odds 0 ≡ 1) × (step_s 1 odds 1 ≡ 0) × (turn_q 1 0 ≡ 0)
unfolding flip_of real step_s turn_q
index_odds = (refl, refl, refl, refl)

-- Q at the outer face of its first side, with frame M, is that side's generator: the promise of a step, as M Q M⁻¹ keeps it
turned_outside : frame_at 1 odds 0 ⊗ mat_q ≡ generator 1 odds 0 ⊗ frame_at 1 odds 0
unfolding ◌⊗◌ adj mat_q
turned_outside = refl

-- M R M⁻¹, which turns about the point inside the polygon, doesn't keep it
turned_inside : frame_at 1 odds 0 ⊗ mat_q ≈ carried (frame_at 1 odds 0) mat_r (frame_at 1 odds 0) ⊗ frame_at 1 odds 0 → ⊥
unfolding ◌⊗◌ adj neg mat_s mat_t mat_r mat_q
turned_inside (inl e) = let z : ◌≡◌ {A = ℕ} 2 0 = ap (λ (m : Mat). nat_abs (m.b +ℤ pos 1)) e in absurd (omega arith)
turned_inside (inr e) = let z : ◌≡◌ {A = ℕ} 0 2 = ap (λ (m : Mat). nat_abs (m.a +ℤ pos 1)) e in absurd (omega arith)

-- Γ(2): the vertices 0/1, 1/1, 2/1 with 1 2 2 1
abbrev gamma2 : List ℤ
gamma2 = pos 0 ∷ pos 1 ∷ pos 1 ∷ pos 1 ∷ pos 2 ∷ pos 1 ∷ pos 1 ∷ pos 2 ∷ pos 2 ∷ pos 1 ∷ []

index_gamma2 : (count (real 3 gamma2) (places 3) ≡ 6) × (flip_of 3 gamma2 ≡ 4 ∷ 6 ∷ 7 ∷ 9 ∷ 0 ∷ 8 ∷ 1 ∷ 2 ∷ 5 ∷ 3 ∷ [])
unfolding flip_of real
index_gamma2 = (refl, refl)
