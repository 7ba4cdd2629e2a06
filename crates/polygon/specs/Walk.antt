-- The walk of a word over the positions of a symbol, and the walk that a pair query makes.
--
--   wrote σ κ w x l     what the word l writes on its way from x, where the letter y writes w y x at x
--   goes v t y p        where the letter y leads from the position p
--   ends v t p l        where the word l leads from p, its letters read from left to right
--   writes v t p l      what it writes on the way
--   arrives v t p m     where the matrix m leads from p: its alternating word, walked
--   followed v t m      the matrix that the walk for m follows from the start: m itself, or S⁻¹ m S from the edge
--                       turned round
--   walk_ends v t m     where that walk ends
--   walk_writes v t m   what it writes
use Rattle.std.specs.Prelude.{List, [], ◌∷◌, ◌++◌, ℕ, ℤ}
use Rattle.matrix.specs.Matrix.{Mat, ◌⊗◌, adj, mat_s}
use Rattle.matrix.specs.Words.{Letter}
use Rattle.matrix.specs.Euclid.{word_of}
use Rattle.basics.specs.Choice.{pick}
use Rattle.matrix.specs.Action.{step, run, at}
use Rattle.polygon.specs.Step.{step_s, turn_q, written, turned, start_of}

module _ {X : Type 0} (σ κ : X → X) (w : Letter → X → List ℤ) where
  abbrev pub wrote : X → List Letter → List ℤ
  wrote x [] = []
  wrote x (y ∷ l) = w y x ++ wrote (step σ κ y x) l

abbrev pub goes : ℕ → List ℤ → Letter → ℕ → ℕ
goes v t y p = step (step_s v t) (turn_q v) y p

abbrev pub ends : ℕ → List ℤ → ℕ → List Letter → ℕ
ends v t p l = run (step_s v t) (turn_q v) p l

abbrev pub writes : ℕ → List ℤ → ℕ → List Letter → List ℤ
writes v t p l = wrote (step_s v t) (turn_q v) (written v t) p l

abbrev pub arrives : ℕ → List ℤ → ℕ → Mat → ℕ
arrives v t p m = at (step_s v t) (turn_q v) p m

unfoldable pub followed : ℕ → List ℤ → Mat → Mat
followed v t m = pick (turned v t) (adj mat_s ⊗ (m ⊗ mat_s)) m

abbrev pub walk_ends : ℕ → List ℤ → Mat → ℕ
walk_ends v t m = arrives v t (start_of v t) (followed v t m)

abbrev pub walk_writes : ℕ → List ℤ → Mat → List ℤ
walk_writes v t m = writes v t (start_of v t) (word_of (followed v t m))
