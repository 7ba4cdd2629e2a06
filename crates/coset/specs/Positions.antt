-- THE POSITIONS OF A SYMBOL, for the crates above: the definitions that a walk is stated with, passed on from where
-- they stand, and all that is promised of them for every accepted symbol, in one record. The proof is `positions`, in
-- proofs/Positions.antt.
--
--   from polygon/specs/Step.antt      Real, step_s, turn_q, written: positions, steps, their letters; turned, start_of
--   from polygon/specs/Walk.antt      goes, ends, writes: a word walked; followed, walk_ends, walkWrites: a matrix
--   from polygon/specs/Theorem.antt   SameCoset; Polygon: what holds of the steps, and of their matrices up to sign
--   from polygon/specs/Inner          letters_of z: the word of one letter z, and the empty word for 0
--   from signs/specs/Sign.antt        plus, minus, s · r, with_sign; letter_sign .. matrixSign: a matrix against its word
--   from signs/specs/Step.antt        step_sign, walk_sign, querySign: the sign of a step, of a walk, of a matrix walked
--   from signs/specs/Theorem.antt     MatrixSigns; Signs: what holds of the matrices with their signs
--   from normal_forms/specs           Reduced; NormalForm, NormalForms: the only reduced word
--
--   FrameEquation v t p m s l q   THE EQUATION OF A STEP OR A WALK, with its sign s: the frame of p times m is s times
--                                 the product of the generators that the letters l stand for, times the frame of q. The
--                                 frames are those of the cut into Farey triangles (`Signs`), where the outer face of
--                                 each side has that side's frame as docs/CONVENTIONS.md writes it
--   StepEquation v t x p s l      the same of the step x from p to where it leads, with the sign s and the letters l
--   most_generators               no symbol has more generators: 1,024
--   Positions v t                 what is promised:
--     polygon, signs, normal-forms   the three theorems
--     one_frame        there is one function of frames only: what `Signs` says of them determines them
--     matrix_signs     each matrix of determinant 1 is its sign times the value of its alternating word
--     steps            the equation of each step, with the sign `step_sign`
--     walks            the equation of each walk of a matrix, with the sign of the matrix times that of the walk
--     turn-writes, back-writes   a turn by Q changes nothing of what Q writes, one by Q⁻¹ nothing of what Q⁻¹ writes
--     followed-round, followed-upright, followed-unit   the walk for m follows S⁻¹ m S or m; its determinant is 1
--     few_generators   so that letters fit 16 signed bits
use Rattle.std.specs.Prelude.{◌≡◌, Bool, true, false, List, ℕ, ◌≤◌, ◌<◌, length, ℤ, pos}
use Rattle.matrix.specs.Matrix.{Mat, ◌⊗◌, adj, det, mat_s}
use Rattle.matrix.specs.Words.{Letter, Q, P, letter}
use Rattle.matrix.specs.Euclid.{word_of}
use Rattle.pairing.specs.Generator.{generators}
use Rattle.pairing.specs.Subgroup.{value_of}
use Rattle.polygon.specs.Cut.{places}
unfoldable pub use Rattle.polygon.specs.Step.{step_s, turn_q, written, start_of}
pub use Rattle.polygon.specs.Step.{Real, turned}
unfoldable pub use Rattle.polygon.specs.Walk.{followed}
pub use Rattle.polygon.specs.Walk.{goes, ends, writes, walk_ends, walk_writes}
pub use Rattle.polygon.specs.Theorem.{SameCoset, Polygon}
pub use Rattle.polygon.specs.Inner.Tables.{letters_of}
unfoldable pub use Rattle.signs.specs.Sign.{matrix_sign}
pub use Rattle.signs.specs.Sign.{plus, minus, ◌·◌, with_sign}
pub use Rattle.signs.specs.Sign.{letter_sign, word_sign, entry_sign, column_sign}
unfoldable pub use Rattle.signs.specs.Step.{step_sign, query_sign}
pub use Rattle.signs.specs.Step.{sign_along, walk_sign}
pub use Rattle.signs.specs.Theorem.{MatrixSigns, Signs}
pub use Rattle.normal_forms.specs.Reduced.{Reduced}
pub use Rattle.normal_forms.specs.Theorem.{NormalForm, NormalForms}

pub record FrameEquation (v : ℕ) (t : List ℤ) (p : ℕ) (m : Mat) (s : Bool) (l : List ℤ) (q : ℕ) : Type 0 where
  pub frames : Signs v t
  pub is : frames.frame p ⊗ m ≡ with_sign s (value_of (generators v t) l ⊗ frames.frame q)

abbrev pub StepEquation : ℕ → List ℤ → Letter → ℕ → Bool → List ℤ → Type 0
StepEquation v t x p s l = FrameEquation v t p (letter x) s l (goes v t x p)

abbrev pub most_generators : ℕ
most_generators = 1024

pub record Positions (v : ℕ) (t : List ℤ) : Type 0 where
  pub polygon : Polygon v t
  pub signs : Signs v t
  pub normal_forms : NormalForms v t
  pub one_frame : (f g : Signs v t) (p : ℕ) → p < places v → f.frame p ≡ g.frame p
  pub matrix_signs : MatrixSigns
  -- the equations
  pub steps : (x : Letter) (p : ℕ) → Real v t p → StepEquation v t x p (step_sign v t x p) (written v t x p)
  pub walks : (m : Mat) (p : ℕ) → det m ≡ pos 1 → Real v t p
      → let l = word_of m in FrameEquation v t p m (matrix_sign m · walk_sign v t p l) (writes v t p l) (ends v t p l)
  -- turns
  pub turn_writes : (p : ℕ) → written v t Q (turn_q v p) ≡ written v t Q p
  pub back_writes : (p : ℕ) → written v t P (turn_q v (turn_q v p)) ≡ written v t P p
  -- the walk for a matrix
  pub followed_round : (m : Mat) → turned v t ≡ true → adj mat_s ⊗ (m ⊗ mat_s) ≡ followed v t m
  pub followed_upright : (m : Mat) → turned v t ≡ false → m ≡ followed v t m
  pub followed_unit : (m : Mat) → det m ≡ pos 1 → det (followed v t m) ≡ pos 1
  -- letters
  pub few_generators : length (generators v t) ≤ most_generators
