-- A WORD IS REDUCED LETTER BY LETTER. An even generator is its own inverse up to sign, and the square of an odd one is
-- its inverse up to sign; so a letter that is put behind a reduced word cancels with the last letter, or merges with
-- it, or stays beside it.
--
--   even_kind k, odd_kind k   whether the pairing k is Even, or Odd
--   plain kind z          the letter z, and for -j with an even generator j the letter j
--   inverse kind a        the letter of the inverse: a itself where a is even, else -a
--   put kind h a          the letter a put behind the word whose letters are h, listed from the last one to the first
--   puts kind h w         all letters of w, one after another, as plain letters
--   reduce v t w          the word w reduced: all its letters put behind the empty word
--
-- `kind` tells what the generator of a letter is; for a symbol it is `letter_kind v t`.
use Rattle.std.specs.Prelude.{Bool, true, false, ◌&&◌, List, [], ◌∷◌, reverse, ℕ, ℤ, pos, neg_ℤ, nat_abs}
use Rattle.basics.specs.Choice.{pick}
use Rattle.symbol.specs.Check.{eq_z}
use Rattle.symbol.specs.declared.Pairing.{Pairing}
use Rattle.symbol.specs.declared.Pairing.TheVariants.{Even, Odd, Free, Bad}
use Rattle.normal_forms.specs.Reduced.{letter_kind}

abbrev pub even_kind : Pairing → Bool
even_kind Even = true
even_kind Odd = false
even_kind (Free l) = false
even_kind Bad = false

abbrev pub odd_kind : Pairing → Bool
odd_kind Even = false
odd_kind Odd = true
odd_kind (Free l) = false
odd_kind Bad = false

module _ (kind : ℤ → Pairing) where
  unfoldable pub plain : ℤ → ℤ
  plain z = pick (even_kind (kind z)) (pos (nat_abs z)) z

  unfoldable pub inverse : ℤ → ℤ
  inverse a = pick (even_kind (kind a)) a (neg_ℤ a)

  unfoldable pub put : List ℤ → ℤ → List ℤ
  put [] a = a ∷ []
  put (b ∷ h) a = pick (eq_z b (inverse a)) h (pick (odd_kind (kind a) && eq_z b a) (neg_ℤ a ∷ h) (a ∷ b ∷ h))

  abbrev pub puts : List ℤ → List ℤ → List ℤ
  puts h [] = h
  puts h (z ∷ w) = puts (put h (plain z)) w

unfoldable pub reduce : ℕ → List ℤ → List ℤ → List ℤ
reduce v t w = reverse (puts (letter_kind v t) [] w)
