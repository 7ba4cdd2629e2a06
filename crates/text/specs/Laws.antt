-- The laws of reading and writing. `proofs/Decimals.antt` proves the first four, `proofs/Answers.antt` the others.
--     Inside64 z       z is a number of 64 signed bits
--     WriteThenRead    reading the decimal form of a number gives the number back
--     NoBlank          the decimal form of a number has no blank byte
--     OnePiece         so that as a text it is one piece, which begins at 0 and says the number
--     NumberFirst      a text that begins with the decimal form of a number and a blank byte: a piece that says the
--                      number, and then the pieces of what is behind
--     Nineteen         a text with a place of refusal 19 is refused with 19 and that place, whatever the space
--     Eleven           any other text that finds too little space is refused with 11 and the entries that it needs
use Rattle.std.specs.Prelude.{Err, None, Some}
use Rattle.std.specs.Prelude.{ℕ, suc, ◌+◌, ◌^◌, ◌<◌, ◌≡◌, true, false, List, [], ◌∷◌, ◌++◌, ℤ, pos, negsuc, length}
use Rattle.text.specs.Blank.{is_blank, unbroken}
use Rattle.text.specs.Number.{integer_from}
use Rattle.text.specs.Piece.{pieces_from, pieces, numbers}
use Rattle.text.specs.Reading.{handed, place19, reading_of}
use Rattle.call.specs.Refusal.{outcome}
use Rattle.call.specs.declared.refusal.Refusal.TheVariants.{TooShort, BadText}
use Rattle.text.specs.declared.Format.{Format}
use Rattle.decimal.specs.Decimal.{decimal_of}

abbrev pub Inside64 : ℤ → Type 0
Inside64 (pos n) = n < 2 ^ 63
Inside64 (negsuc n) = n < 2 ^ 63

abbrev pub WriteThenRead : Type 0
WriteThenRead = (z : ℤ) → Inside64 z → integer_from (decimal_of z) ≡ Some z

abbrev pub NoBlank : Type 0
NoBlank = (z : ℤ) → unbroken (decimal_of z) ≡ true

abbrev pub OnePiece : Type 0
OnePiece = (z : ℤ) → Inside64 z → pieces (decimal_of z) ≡ record { at = 0; says = Some z } ∷ []

abbrev pub NumberFirst : Type 0
NumberFirst = (z : ℤ) (b : ℕ) (t : List ℕ) (at : ℕ) → Inside64 z → is_blank b ≡ true
    → pieces_from at false (decimal_of z ++ (b ∷ t))
    ≡ record { at = at; says = Some z } ∷ pieces_from (suc (at + length (decimal_of z))) false t

abbrev pub Nineteen : Type 0
Nineteen = (f : Format) (t : List ℕ) (room p : ℕ) → place19 f t ≡ Some p
    → outcome (reading_of f t room) ≡ Err (BadText p)

abbrev pub Eleven : Type 0
Eleven = (f : Format) (t : List ℕ) (room : ℕ) → place19 f t ≡ None → room < handed f (numbers (pieces t))
    → outcome (reading_of f t room) ≡ Err (TooShort (handed f (numbers (pieces t))))
