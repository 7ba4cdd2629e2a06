-- THE THREE THEOREMS on which a 'none' rests. Each is stated here as a type; the proof is the name in brackets.
--
--   Existence    [proofs/Existence.antt, existence]     each matrix of determinant 1 is, up to sign, the value of an
--                alternating word
--   Uniqueness   [proofs/Uniqueness.antt, uniqueness]   two alternating words with the same value up to sign are the
--                same word
--   Action       [proofs/Action.antt, action]           a set with an involution and a map of order three carries an
--                action, on the right, of all matrices of determinant 1, which is blind to sign (`Acts`)
use Rattle.std.specs.Prelude.{◌≡◌, List, pos}
use Rattle.matrix.specs.Matrix.{Mat, ◌⊗◌, 𝟙, det, mat_s, mat_q, ◌≈◌}
use Rattle.matrix.specs.Words.{Letter, value, Alternating}
use Rattle.matrix.specs.Euclid.{word_of}
use Rattle.matrix.specs.Action.{run, at, Involution, OrderThree}

-- The word is the one that the subtractive Euclidean algorithm finds.
abbrev pub Existence : Type 0
Existence = (m : Mat) → det m ≡ pos 1 → Alternating (word_of m) × (value (word_of m) ≈ m)

abbrev pub Uniqueness : Type 0
Uniqueness = (u w : List Letter) → Alternating u → Alternating w → value u ≈ value w → u ≡ w

-- `at σ κ x m` is x·m. A word in S, Q and P, alternating or not, leads where its matrix leads.
pub record Acts {X : Type 0} (σ κ : X → X) : Type 0 where
  pub identity : (x : X) → at σ κ x 𝟙 ≡ x
  pub product : (x : X) (m n : Mat) → det m ≡ pos 1 → det n ≡ pos 1 → at σ κ x (m ⊗ n) ≡ at σ κ (at σ κ x m) n
  pub sign : (x : X) (m n : Mat) → m ≈ n → at σ κ x m ≡ at σ κ x n
  pub by_S : (x : X) → at σ κ x mat_s ≡ σ x
  pub by_Q : (x : X) → at σ κ x mat_q ≡ κ x
  pub words : (x : X) (l : List Letter) → at σ κ x (value l) ≡ run σ κ x l

abbrev pub Action : Type 1
Action = (X : Type 0) (σ κ : X → X) → Involution σ → OrderThree κ → Acts σ κ
