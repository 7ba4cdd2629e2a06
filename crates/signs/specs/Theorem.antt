-- WHAT THE SIGNS PROMISE, in two theorems; nothing here is up to sign. Letter j stands for generator j as
-- docs/CONVENTIONS.md writes it, and -j for its inverse, which is its adjugate.
--
--   MatrixSigns        [proofs/Word.antt, matrix_signs]   each matrix of determinant 1 is its `matrix_sign` times the
--                      value of its alternating word
--   edge_matrix t x y  (a' a; b' b), where the vertex x is a/b and the vertex y is a'/b', counted from 0 for -1/0, with
--                      the entries of the table
--   EdgeFrame v t m    m is that matrix for some two vertices of the polygon, -1/0 among them, the first of them on the
--                      left
--   Signs v t          [proofs/Query.antt, signs]   the promise, for every accepted symbol:
--     frames       the frames of the cut into Farey triangles (`Triangles`, in the crate polygon): the outer face of
--                  each side has that side's frame as docs/CONVENTIONS.md writes it, and Q turns within a triangle.
--                  Corner 0 of each triangle has the matrix of its edge, sign included; and S takes each frame to that
--                  of the other side of its edge, with the sign `flip_sign`
--     promise      OF A STEP: the frame times the letter is the step's sign times what is written times the frame of
--                  where the step leads
--     walk         of any word, with the product of the signs
--     found        a matrix whose walk comes home is its `query_sign` times the word that the walk writes
--     pair, only   OF A PAIR: the word found for A and B, times A, is the sign `query_sign` of B A⁻¹ times B, and no
--                  other sign times B
use Rattle.std.specs.Prelude.{◌≡◌, Bool, List, ℕ, ◌*◌, ◌-◌, ◌≤◌, ◌<◌, ℤ, pos}
use Rattle.matrix.specs.Matrix.{Mat, mat, ◌⊗◌, adj, det, mat_s}
use Rattle.matrix.specs.Words.{Letter, letter, value}
use Rattle.matrix.specs.Euclid.{word_of}
use Rattle.symbol.specs.Table.{left_num, left_den}
use Rattle.pairing.specs.Generator.{generators}
use Rattle.pairing.specs.Subgroup.{value_of}
use Rattle.polygon.specs.Cut.{places, flip}
use Rattle.polygon.specs.Step.{Real, written, start_of}
use Rattle.polygon.specs.Triangles.{Triangles}
use Rattle.polygon.specs.Walk.{goes, ends, writes, walk_ends, walk_writes}
use Rattle.signs.specs.Sign.{with_sign, matrix_sign}
use Rattle.signs.specs.Step.{flip_sign, step_sign, walk_sign, query_sign}

abbrev pub MatrixSigns : Type 0
MatrixSigns = (m : Mat) → det m ≡ pos 1 → m ≡ with_sign (matrix_sign m) (value (word_of m))

abbrev pub edge_matrix : List ℤ → ℕ → ℕ → Mat
edge_matrix t x y = mat (left_num t y) (left_num t x) (left_den t y) (left_den t x)

pub record EdgeFrame (v : ℕ) (t : List ℤ) (m : Mat) : Type 0 where
  pub left : ℕ
  pub right : ℕ
  pub ordered : (left < right) × (right ≤ v)
  pub is : m ≡ edge_matrix t left right

pub record Signs (v : ℕ) (t : List ℤ) : Type 0 where
  -- frames
  pub frame : ℕ → Mat
  pub cut : Triangles v t frame
  pub edges : (k : ℕ) → k < v - 1 → EdgeFrame v t (frame (3 * k))
  pub turn_S : (p : ℕ) → p < places v → frame p ⊗ mat_s ≡ with_sign (flip_sign v t p) (frame (flip v t p))
  -- steps and words
  pub promise : (x : Letter) (p : ℕ) → Real v t p
      → frame p ⊗ letter x
      ≡ with_sign (step_sign v t x p) (value_of (generators v t) (written v t x p) ⊗ frame (goes v t x p))
  pub walk : (l : List Letter) (p : ℕ) → Real v t p
      → frame p ⊗ value l ≡ with_sign (walk_sign v t p l)
      (value_of (generators v t) (writes v t p l) ⊗ frame (ends v t p l))
  -- the query
  pub found : (m : Mat) → det m ≡ pos 1 → walk_ends v t m ≡ start_of v t → m
      ≡ with_sign (query_sign v t m) (value_of (generators v t) (walk_writes v t m))
  pub pair : (A B : Mat) → det A ≡ pos 1 → det B ≡ pos 1 → walk_ends v t (B ⊗ adj A) ≡ start_of v t
      → value_of (generators v t) (walk_writes v t (B ⊗ adj A)) ⊗ A ≡ with_sign (query_sign v t (B ⊗ adj A)) B
  pub only : (A B : Mat) (s : Bool) → det A ≡ pos 1 → det B ≡ pos 1 → walk_ends v t (B ⊗ adj A) ≡ start_of v t
      → value_of (generators v t) (walk_writes v t (B ⊗ adj A)) ⊗ A ≡ with_sign s B → s ≡ query_sign v t (B ⊗ adj A)
