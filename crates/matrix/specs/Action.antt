-- What words, and through them matrices, do to a set with two maps on it.
--
--   step σ κ l x       where the letter l leads from x: S by σ, Q by κ, P by κ twice
--   run σ κ x l        where the word l leads from x, its letters read from left to right
--   at σ κ x m         where the matrix m leads from x: its alternating word, run
--   Involution σ       σ twice moves nothing
--   OrderThree κ       κ three times moves nothing
use Rattle.std.specs.Prelude.{◌≡◌, List, [], ◌∷◌}
use Rattle.matrix.specs.Matrix.{Mat}
use Rattle.matrix.specs.Words.{Letter, S, Q, P}
use Rattle.matrix.specs.Euclid.{word_of}

module _ {X : Type 0} (σ κ : X → X) where
  abbrev pub step : Letter → X → X
  step S x = σ x
  step Q x = κ x
  step P x = κ (κ x)

  abbrev pub run : X → List Letter → X
  run x [] = x
  run x (l ∷ w) = run (step l x) w

  unfoldable pub at : X → Mat → X
  at x m = run x (word_of m)

abbrev pub Involution : {X : Type 0} → (X → X) → Type 0
Involution {X} σ = (x : X) → σ (σ x) ≡ x

abbrev pub OrderThree : {X : Type 0} → (X → X) → Type 0
OrderThree {X} κ = (x : X) → κ (κ (κ x)) ≡ x
