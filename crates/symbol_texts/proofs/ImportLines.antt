-- Lines of numbers.
--     empty_line, full_line     a line of no number, and one of some
--     rest_is                   the part of a list behind a place, as the code takes it
-- Assumes nothing.
use mathlib.Core.Path.{◌≡◌, refl, ap, ◌∙◌}
use mathlib.Core.List.{List, [], ◌∷◌, ◌++◌, append_assoc}
use Prim.Native.Nat.{ℕ, ◌-◌}
use native.Mathlib.Omega.{arith}
use lib.IntN.{ℤ, pos}
use lib.ListN.{length, get_or, take, drop, length-drop}
use lib.Seq.{take_all}
use Rattle.decimal.specs.Decimal.{decimal_of}
use Rattle.text.specs.Line.{spaced}
use Rattle.symbol_texts.specs.ImportAnswer.{number_line}

pub rest_is : (k : ℕ) (l : List ℤ) → take (length l - k) (drop k l) ≡ drop k l
rest_is k l = take_all (length l - k) (drop k l) (omega (arith, length-drop k l))

pub empty_line : (zs : List ℤ) → length zs ≡ 0 → 10 ∷ [] ≡ number_line zs
unfolding number_line
empty_line [] h = refl
empty_line (z ∷ zs) h = absurd (omega arith)

pub full_line : (zs : List ℤ) → (length zs ≡ 0 → ⊥) → decimal_of (get_or zs 0 (pos 0)) ++ spaced (take (length zs - 1) (drop 1 zs)) ++ (10 ∷ []) ≡ number_line zs
unfolding number_line
full_line [] h = absurd (h refl)
full_line (z ∷ zs) h =
    ap (λ (l : List ℤ). decimal_of z ++ spaced l ++ (10 ∷ [])) (rest_is 1 (z ∷ zs)) ∙ append_assoc (decimal_of z) (spaced zs) (10 ∷ [])
