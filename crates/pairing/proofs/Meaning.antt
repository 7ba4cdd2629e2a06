-- WHAT THE ANSWER OF `generators` MEANS: each number of a generator belongs to a leading side (`leader_of`), so that all generators of a symbol
-- have determinant 1 (`generates`). Assumes nothing.
use mathlib.Core.Path.{◌≡◌, sym, ◌∙◌, ap}
use mathlib.Core.Logic.{◌⊎◌, inl, inr}
use mathlib.Core.Bool.{Bool, true, false}
use mathlib.Core.List.{List}
use Prim.Native.Nat.{ℕ, zero, suc, ◌+◌, ◌<◌, ◌≤◌}
use native.Mathlib.Omega.{arith}
use native.Mathlib.Decide.{dec_lt}
use lib.ListN.{length, get_or, length-map}
use lib.IntN.{ℤ, pos}
use Rattle.matrix.specs.Matrix.{𝟙, det}
use Rattle.matrix.proofs.Matrix.{adj-⊗}
use Rattle.basics.specs.Count.{count}
use Rattle.symbol.specs.Symbol.{IsSymbol}
use Rattle.basics.proofs.Choice.{either}
use Rattle.basics.proofs.Count.{length_those, count_yes, count_no}
use Rattle.pairing.specs.Generator.{is_leader, leaders, generator, generators, Generates}
use Rattle.pairing.proofs.Facts.{generator_det, generator_at}

-- the one that passes with j before it
pub record Before (test : ℕ → Bool) (n j : ℕ) : Type 0 where
  pub at : ℕ
  pub below : at < n
  pub passes : test at ≡ true
  pub before : count test at ≡ j

pub before_of : (test : ℕ → Bool) (n j : ℕ) → j < count test n → Before test n j
before_of test zero j h = absurd (omega arith)
before_of test (suc n) j h = elim (dec_lt j (count test n)) [
  | yes l ↦ let b = before_of test n j l in
      let k = b.below in
      record { at = b.at; below = omega arith; passes = b.passes; before = b.before }
  | no l ↦ last (either (test n)) l
]
  where
    last : (test n ≡ true) ⊎ (test n ≡ false) → (j < count test n → ⊥) → Before test (suc n) j
    last (inl e) l = let k = count_yes test n e in record { at = n; below = omega arith; passes = e; before = omega arith }
    last (inr e) l = let k = count_no test n e in absurd (l (omega arith))

module _ (v : ℕ) (t : List ℤ) (s : IsSymbol v t) where
  leader_of : (j : ℕ) → j < length (generators v t) → Before (is_leader v t) (v + 1) j
  leader_of j h = before_of (is_leader v t) (v + 1) j (omega (arith, length-map (leaders v t) (generator v t), length_those (is_leader v t) (v + 1)))

  unit : (j : ℕ) → j < length (generators v t) → det (get_or (generators v t) j 𝟙) ≡ pos 1
  unit j h =
      let b = leader_of j h in
      let k = b.below in
      let low : b.at ≤ v = omega arith in
      ap (λ (n : ℕ). det (get_or (generators v t) n 𝟙)) (sym b.before) ∙ ap det (generator_at v t b.at low b.passes) ∙ generator_det v t s b.at low

  pub generates : Generates v t
  generates = record { symbol = s; unit = unit; inverse = λ j h. adj-⊗ (get_or (generators v t) j 𝟙) (unit j h) }
