-- Texts that say numbers, none of their pieces being bad.
--     Says t zs       wherever the text t begins, its pieces say the numbers zs
--     says_none       no byte says no number
--     says_number     a number in decimal form and a blank byte in front say the number
--     says_reading    the answer to a text that says v and as many numbers as are wanted
-- Assumes nothing.
use Rattle.std.specs.Prelude.{Ok, Option, None, Some}
use mathlib.Core.Path.{◌≡◌, refl, sym, ap, ◌∙◌}
use mathlib.Core.Bool.{true, false}
use mathlib.Core.List.{List, [], ◌∷◌, ◌++◌}
use Prim.Native.Nat.{ℕ, suc, ◌+◌, ◌≤◌}
use native.Mathlib.Omega.{arith}
use lib.IntN.{ℤ}
use lib.ListN.{length}
use borrow.Author.Tests.{le-ltb}
use Rattle.text.specs.Blank.{is_blank}
use Rattle.text.specs.Piece.{pieces_from, pieces, first_bad, numbers}
use Rattle.decimal.specs.Decimal.{decimal_of}
use Rattle.text.specs.Laws.{Inside64}
use Rattle.text.specs.Reading.{text_most, wanted, wanted_or1, handed, count_place, first_place, place19, answer, reading_of}
use Rattle.text.specs.declared.Format.{Format}
use Rattle.text.proofs.Decimals.{number_first}
use Rattle.text.proofs.Handed.{numbers_count}

pub record Says (t : List ℕ) (zs : List ℤ) : Type 0 where
  pub these : (at : ℕ) → numbers (pieces_from at false t) ≡ zs
  pub good : (at : ℕ) → first_bad (pieces_from at false t) ≡ None

pub says_none : Says [] []
unfolding pieces_from numbers first_bad
says_none = record { these = λ at. refl; good = λ at. refl }

pub says_number : (z : ℤ) (b : ℕ) (t : List ℕ) (zs : List ℤ) → Inside64 z → is_blank b ≡ true → Says t zs → Says (decimal_of z ++ (b ∷ t)) (z ∷ zs)
unfolding numbers first_bad
says_number z b t zs h e s = record {
  these = λ at. ap numbers (number_first z b t at h e) ∙ ap (λ (l : List ℤ). z ∷ l) (s.these (suc (at + length (decimal_of z))));
  good = λ at. ap first_bad (number_first z b t at h e) ∙ s.good (suc (at + length (decimal_of z)));
}

module _ (f : Format) (t : List ℕ) (v : ℤ) (zs : List ℤ) (w : ℕ) (s : Says t (v ∷ zs)) (wants : wanted f v ≡ Some w) (many : suc (length zs) ≡ w) where
  pub says_numbers : numbers (pieces t) ≡ v ∷ zs
  unfolding pieces
  says_numbers = s.these 0

  all_good : first_bad (pieces t) ≡ None
  unfolding pieces
  all_good = s.good 0

  just : length (pieces t) ≡ w
  just = sym (numbers_count (pieces t) all_good) ∙ ap length says_numbers ∙ many

  count_right : first_place f (numbers (pieces t)) (length t) (pieces t) ≡ None
  unfolding first_place count_place
  count_right =
      ap (λ (ns : List ℤ). first_place f ns (length t) (pieces t)) says_numbers
      ∙ ap (λ (o : Option ℕ). count_place o (length t) (pieces t)) wants
      ∙ rw (le-ltb (length (pieces t)) w (omega (arith, just)), le-ltb w (length (pieces t)) (omega (arith, just)))

  no_place : length t ≤ text_most → place19 f t ≡ None
  unfolding place19
  no_place h = rw (le-ltb text_most (length t) h, all_good) count_right

  pub says_reading : (room : ℕ) → length t ≤ text_most → w ≤ room → reading_of f t room ≡ Ok w
  unfolding reading_of handed answer
  says_reading room h k =
      ap (λ (o : Option ℕ). answer o (handed f (numbers (pieces t))) room) (no_place h)
      ∙ ap (λ (ns : List ℤ). answer None (handed f ns) room) says_numbers
      ∙ ap (λ (o : Option ℕ). answer None (wanted_or1 o) room) wants
      ∙ rw (le-ltb room w k)
