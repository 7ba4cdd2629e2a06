-- REDUCED WORDS in the generators of a symbol and their inverses (request 2026-12). A letter is j for generator j or -j
-- for its inverse.
--
--   generator_kinds v t  what the sides are paired as that lead the generators, from generator 1 on: Even, Odd, or Free
--                        with a label
--   letter_kind v t z    that of the generator which the letter z stands for, or whose inverse it stands for; Bad where
--                        there is none
--   EvenLetter v t z     z is j or -j for an even generator j
--   OddLetter v t z      z is j or -j for an odd generator j
--   Inverted z           z stands for the inverse of a generator: it is negative
--   letter_at w i        letter i of the word w, counted from 0
--   Reduced v t w        THE FOUR CLAUSES of the request, for the letters of w and for neighbours x, y among them, x
--                        before y:
--     beside_inverse   no generator stands beside its own inverse: y is not -x
--     even_repeated    an even generator never follows itself
--     even_inverted    no even generator is inverted
--     odd_repeated     no odd letter follows an equal one
use Rattle.std.specs.Prelude.{◌≡◌, List, map, ℕ, zero, suc, ◌<◌, length, get_or, ℤ, pos, negsuc, neg_ℤ}
use Rattle.symbol.specs.declared.Pairing.{Pairing}
use Rattle.symbol.specs.declared.Pairing.TheVariants.{Even, Odd, Bad}
use Rattle.pairing.specs.Generator.{pairing_at, leaders}

abbrev pub generator_kinds : ℕ → List ℤ → List Pairing
generator_kinds v t = map (pairing_at v t) (leaders v t)

unfoldable pub letter_kind : ℕ → List ℤ → ℤ → Pairing
letter_kind v t (pos zero) = Bad
letter_kind v t (pos (suc j)) = get_or (generator_kinds v t) j Bad
letter_kind v t (negsuc j) = get_or (generator_kinds v t) j Bad

abbrev pub EvenLetter : ℕ → List ℤ → ℤ → Type 0
EvenLetter v t z = letter_kind v t z ≡ Even

abbrev pub OddLetter : ℕ → List ℤ → ℤ → Type 0
OddLetter v t z = letter_kind v t z ≡ Odd

abbrev pub Inverted : ℤ → Type 0
Inverted (pos n) = ⊥
Inverted (negsuc n) = Unit {0}

abbrev pub letter_at : List ℤ → ℕ → ℤ
letter_at w i = get_or w i (pos 0)

pub record Reduced (v : ℕ) (t w : List ℤ) : Type 0 where
  pub beside_inverse : (i : ℕ) → suc i < length w → letter_at w (suc i) ≡ neg_ℤ (letter_at w i) → ⊥
  pub even_repeated : (i : ℕ) → suc i < length w → EvenLetter v t (letter_at w i) → letter_at w (suc i) ≡ letter_at w i → ⊥
  pub even_inverted : (i : ℕ) → i < length w → EvenLetter v t (letter_at w i) → Inverted (letter_at w i) → ⊥
  pub odd_repeated : (i : ℕ) → suc i < length w → OddLetter v t (letter_at w i) → letter_at w (suc i) ≡ letter_at w i → ⊥
