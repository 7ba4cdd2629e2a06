-- THE CORNERS OF A TRIANGLE, and turns within it. A triangle has a left, a middle and a right vertex, and each of its
-- three corners is an edge with the triangle on its right; Triangles.antt says so of the frames of a cut (`Farey`).
--
--   Apex                        the vertices of a triangle
--   edge_from c, edge_to c       where the edge of corner c begins and ends: 0 goes from left to right, 1 from middle
--                                to left, 2 from right to middle
--   TurnsTo inverse c d         the turn by Q, or by Q⁻¹ where `inverse` holds, leads from corner c to corner d: Q to
--                               the edge that ends where this one begins, Q⁻¹ to the edge that begins where this one
--                               ends
--   FrameTurns                  [frame_turns] so it is with the frames of a cut: where a turn leads from corner c of
--                               triangle k to corner d, the frame of the one times Q, or Q⁻¹, is the frame of the other
--   Turning                     [turning] and with all matrices: m Q sends infinity where m sends 0, and m Q⁻¹ sends 0
--                               where m sends infinity; proofs/Corner.antt has the proof
use Rattle.std.specs.Prelude.{◌≡◌, Bool, true, false, List, ℕ, zero, suc, ◌+◌, ◌*◌, ◌-◌, ◌<◌, ℤ}
use Rattle.matrix.specs.Matrix.{Mat, ◌⊗◌, mat_q, mat_p}
use Rattle.polygon.specs.Triangles.{at_zero, at_infinity, Triangles}

pub data Apex : Type 0 where
  left middle right : Apex

abbrev pub edge_from : ℕ → Apex
edge_from zero = left
edge_from (suc zero) = middle
edge_from (suc (suc c)) = right

abbrev pub edge_to : ℕ → Apex
edge_to zero = right
edge_to (suc zero) = left
edge_to (suc (suc c)) = middle

abbrev pub TurnsTo : Bool → ℕ → ℕ → Type 0
TurnsTo false c d = edge_to d ≡ edge_from c
TurnsTo true c d = edge_from d ≡ edge_to c

-- Q⁻¹ where `inverse` holds
abbrev pub turn_matrix : Bool → Mat
turn_matrix false = mat_q
turn_matrix true = mat_p

abbrev pub FrameTurns : Type 0
FrameTurns = (v : ℕ) (t : List ℤ) (frame : ℕ → Mat) → Triangles v t frame → (k c d : ℕ) → k < v - 1 → c < 3 → d < 3
    → (inverse : Bool)
    → TurnsTo inverse c d → frame (3 * k + c) ⊗ turn_matrix inverse ≡ frame (3 * k + d)

abbrev pub Turning : Type 0
Turning = (m : Mat) → (at_infinity (m ⊗ mat_q) ≡ at_zero m) × (at_zero (m ⊗ mat_p) ≡ at_infinity m)
