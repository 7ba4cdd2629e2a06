-- Chords between vertices and their frames (`chord`); a chord over a triangle (`Over`); the sides are chords (`side_chord`), but for the last one,
-- which ends at 1/0 (`last_side`). Assumes nothing.
use mathlib.Core.Path.{◌≡◌, refl, ◌∙◌, ap}
use mathlib.Core.Bool.{Bool}
use mathlib.Core.List.{List}
use Prim.Native.Nat.{ℕ, zero, suc, ◌+◌, ◌≤◌, ◌<◌}
use native.Mathlib.Omega.{arith}
use lib.IntN.{ℤ, pos, ◌+ℤ◌}
use borrow.Author.Tests.{lt-ltb, le-ltb}
use Rattle.basics.specs.Choice.{pick}
use Rattle.matrix.specs.Matrix.{Mat, mat}
use Rattle.matrix.proofs.Ring.{mat_eq}
use Rattle.symbol.specs.Table.{numer, denom, left_num, left_den}
use Rattle.symbol.specs.Symbol.{IsSymbol}
use Rattle.pairing.specs.Generator.{frame_at}
use Rattle.polygon.specs.Cut.{den}

-- the frame of the chord from vertex x to vertex y, counted from 0 for -1/0
abbrev pub chord : List ℤ → ℕ → ℕ → Mat
chord t x y = mat (left_num t y) (left_num t x) (pos (den t y)) (pos (den t x))

-- x is the frame of a chord between vertices, with their mediant between them
pub record Over (v : ℕ) (t : List ℤ) (x : Mat) : Type 0 where
  pub left : ℕ
  pub middle : ℕ
  pub right : ℕ
  pub ordered : (left < middle) × (middle < right) × (right ≤ v)
  pub num_is : left_num t middle ≡ left_num t left +ℤ left_num t right
  pub den_is : den t middle ≡ den t left + den t right
  pub is : x ≡ chord t left right

module _ (v : ℕ) (t : List ℤ) (ok : IsSymbol v t) where
  pub left_den_lem : (i : ℕ) → i ≤ v → left_den t i ≡ pos (den t i)
  left_den_lem zero h = refl
  left_den_lem (suc i) h = (ok.denoms i (omega arith)).2

  pub side_chord : (i : ℕ) → i < v → frame_at v t i ≡ chord t i (suc i)
  side_chord i h =
      let b = lt-ltb i v h in
      mat_eq (ap (λ (x : Bool). pick x (numer t i) (pos 1)) b) refl (ap (λ (x : Bool). pick x (denom t i) (pos 0)) b ∙ (ok.denoms i h).2)
      (left_den_lem i (omega arith))

  pub last_side : frame_at v t v ≡ mat (pos 1) (left_num t v) (pos 0) (pos (den t v))
  last_side =
      let b = le-ltb v v (omega arith) in
      mat_eq (ap (λ (x : Bool). pick x (numer t v) (pos 1)) b) refl (ap (λ (x : Bool). pick x (denom t v) (pos 0)) b) (left_den_lem v (omega arith))
