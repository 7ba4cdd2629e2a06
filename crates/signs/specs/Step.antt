-- The signs of the steps by S, Q and Q⁻¹, of a walk, and of the walk that a pair query makes.
--
-- The matrix of an edge with the ends a/b < a'/b' is (a' a; b' b) where it is read from left to right, with -1/0 for
-- infinity; read from right to left, it is that times S.
--
--   left_to_right v p  whether the edge of the position p is read from left to right: at corner 0 of a triangle, and at
--                      the outer face of every side but the last. That one leads to infinity, which is the left end
--                      -1/0 of the same edge in the cut
--   frame_sign v p     the sign of the frame of p against the matrix of its edge: minus at corner 2 of a triangle and
--                      at the outer face of the last side, whose frame has 1/0 for infinity; else plus
--   flip_sign v t p    the sign with which S takes the frame of p to that of the other side of its edge
--   crossing_sign w s  the sign of the letter that w consists of: plus for j, minus for -j; and s where w is empty
--   step_sign v t x p  THE SIGN OF THE STEP x FROM p: plus for Q and Q⁻¹. For S that of the letter written, or where
--                      none is, plus from left to right and minus from right to left; times the signs of the frames at
--                      both ends of the step
--   sign_along σ κ s x l  the product of the signs s of the letters of l on the way from x
--   walk_sign v t p l  the product of the signs of the steps that the word l makes from p
--   query_sign v t m   THE SIGN OF THE WALK for m = B A⁻¹: that of the matrix which the walk follows from the start
--                      (S⁻¹ m S where the start is turned round) against its alternating word, times that of the walk
--                      along this word
use Rattle.std.specs.Prelude.{Bool, not, List, [], ◌∷◌, ℕ, ◌%◌, ltb, eqb, ℤ}
use Rattle.basics.specs.Choice.{pick}
use Rattle.matrix.specs.Matrix.{Mat}
use Rattle.matrix.specs.Words.{Letter, S, Q, P}
use Rattle.matrix.specs.Euclid.{positive, word_of}
use Rattle.matrix.specs.Action.{step}
use Rattle.polygon.specs.Cut.{corners, outer, flip}
use Rattle.polygon.specs.Step.{step_s, turn_q, written, start_of}
use Rattle.polygon.specs.Walk.{followed}
use Rattle.signs.specs.Sign.{plus, ◌·◌, matrix_sign}

-- ---- frames

unfoldable pub left_to_right : ℕ → ℕ → Bool
left_to_right v p = pick (ltb p (corners v)) (eqb (p % 3) 0) (not (eqb p (outer v v)))

unfoldable pub frame_sign : ℕ → ℕ → Bool
frame_sign v p = pick (ltb p (corners v)) (not (eqb (p % 3) 2)) (not (eqb p (outer v v)))

abbrev pub flip_sign : ℕ → List ℤ → ℕ → Bool
flip_sign v t p = frame_sign v p · frame_sign v (flip v t p) · left_to_right v p

-- ---- steps

abbrev pub crossing_sign : List ℤ → Bool → Bool
crossing_sign [] s = s
crossing_sign (z ∷ w) s = positive z

unfoldable pub step_sign : ℕ → List ℤ → Letter → ℕ → Bool
step_sign v t S p = frame_sign v p · frame_sign v (step_s v t p) · crossing_sign (written v t S p) (left_to_right v p)
step_sign v t Q p = plus
step_sign v t P p = plus

-- ---- walks

module _ {X : Type 0} (σ κ : X → X) (s : Letter → X → Bool) where
  abbrev pub sign_along : X → List Letter → Bool
  sign_along x [] = plus
  sign_along x (y ∷ l) = s y x · sign_along (step σ κ y x) l

abbrev pub walk_sign : ℕ → List ℤ → ℕ → List Letter → Bool
walk_sign v t p l = sign_along (step_s v t) (turn_q v) (step_sign v t) p l

unfoldable pub query_sign : ℕ → List ℤ → Mat → Bool
query_sign v t m = matrix_sign (followed v t m) · walk_sign v t (start_of v t) (word_of (followed v t m))
