-- What the inner functions of the query ask for, and give.
--
--   letters_along v t m     what the walk along the matrix m writes, from the start of the symbol
--   sign_along_walk v t m   the sign of m against that: its own against its alternating word, times that of the walk
--   home_along v t m        whether that walk comes home
--   WalkReady t v w m x     the tables are in the work space, x is the start, and the matrix m can be followed
--   PairReady t v w a b x   the tables are in the work space, x is the start, and the pair passes 8 and 9
use Rattle.std.specs.Prelude.{◌≡◌, Bool, List, ℕ, ◌^◌, eqb, ℤ, pos}
use Rattle.matrix.specs.Matrix.{Mat, det, of_list}
use Rattle.matrix.specs.Bounds.{Small}
use Rattle.matrix.specs.Euclid.{word_of}
use Rattle.coset.specs.Positions.{start_of, ends, writes, ◌·◌, matrix_sign, walk_sign}
use Rattle.coset.specs.Inner.Steps.{StepTables}

unfoldable pub letters_along : ℕ → List ℤ → Mat → List ℤ
letters_along v t m = writes v t (start_of v t) (word_of m)

unfoldable pub sign_along_walk : ℕ → List ℤ → Mat → Bool
sign_along_walk v t m = matrix_sign m · walk_sign v t (start_of v t) (word_of m)

unfoldable pub home_along : ℕ → List ℤ → Mat → Bool
home_along v t m = eqb (ends v t (start_of v t) (word_of m)) (start_of v t)

pub record WalkReady (t : List ℤ) (v : ℕ) (w : List ℕ) (m : List ℤ) (x : ℕ) : Type 0 where
  pub prepared : StepTables t v w
  pub start : x ≡ start_of v t
  pub unit : det (of_list m) ≡ pos 1
  pub small : Small (2 ^ 60) (of_list m)

pub record PairReady (t : List ℤ) (v : ℕ) (w : List ℕ) (a b : List ℤ) (x : ℕ) : Type 0 where
  pub prepared : StepTables t v w
  pub start : x ≡ start_of v t
  pub entries_A : Small 1000000 (of_list a)
  pub entries_B : Small 1000000 (of_list b)
  pub unit_A : det (of_list a) ≡ pos 1
  pub unit_B : det (of_list b) ≡ pos 1
