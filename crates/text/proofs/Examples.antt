-- Texts and their answers, computed from the definitions: a symbol's listing, and each way to be refused with 19.
-- Assumes nothing.
use Rattle.std.specs.Prelude.{Ok, Err, Some}
use mathlib.Core.Path.{◌≡◌, refl}
use mathlib.Core.List.{[], ◌∷◌}
use lib.IntN.{pos, negsuc}
use Rattle.call.specs.declared.refusal.Refusal.TheVariants.{TooShort, BadText}
use Rattle.text.specs.Blank.{is_blank, until_blank}
use Rattle.text.specs.Number.{is_digit, onward, natural_from, within, integer_from}
use Rattle.text.specs.Piece.{pieces_from, pieces, first_bad, numbers, place_at}
use Rattle.text.specs.Reading.{wanted, handed, count_place, first_place, place19, answer, reading_of}
use Rattle.decimal.specs.Decimal.{digits_onto, digits, decimal_of}
use Rattle.text.specs.declared.Format.{Format}

abbrev listing : Format
listing = record { least = 1; most = 1023; each = 3; more = 2 }

-- 2, 0 1 1 1, 1 -2 1 on three lines
whole : reading_of listing (50 ∷ 10 ∷ 48 ∷ 32 ∷ 49 ∷ 32 ∷ 49 ∷ 32 ∷ 49 ∷ 10 ∷ 49 ∷ 32 ∷ 45 ∷ 50 ∷ 32 ∷ 49 ∷ []) 8 ≡ Ok 8
unfolding is_blank until_blank is_digit onward natural_from within integer_from pieces_from pieces first_bad numbers place_at wanted handed count_place first_place
    place19 answer reading_of
whole = refl

whole_numbers : numbers (pieces (50 ∷ 10 ∷ 48 ∷ 32 ∷ 49 ∷ 32 ∷ 49 ∷ 32 ∷ 49 ∷ 10 ∷ 49 ∷ 32 ∷ 45 ∷ 50 ∷ 32 ∷ 49 ∷ []))
    ≡ pos 2 ∷ pos 0 ∷ pos 1 ∷ pos 1 ∷ pos 1 ∷ pos 1 ∷ negsuc 1 ∷ pos 1 ∷ []
unfolding is_blank until_blank is_digit onward natural_from within integer_from pieces_from pieces numbers
whole_numbers = refl

-- the same in too short a slice
narrow : reading_of listing (50 ∷ 10 ∷ 48 ∷ 32 ∷ 49 ∷ 32 ∷ 49 ∷ 32 ∷ 49 ∷ 10 ∷ 49 ∷ 32 ∷ 45 ∷ 50 ∷ 32 ∷ 49 ∷ []) 7 ≡ Err (TooShort 8)
unfolding is_blank until_blank is_digit onward natural_from within integer_from pieces_from pieces first_bad numbers place_at wanted handed count_place first_place
    place19 answer reading_of
narrow = refl

-- no byte: too few
empty : reading_of listing ([]) 8 ≡ Err (BadText 0)
unfolding is_blank until_blank is_digit onward natural_from within integer_from pieces_from pieces first_bad numbers place_at wanted handed count_place first_place
    place19 answer reading_of
empty = refl

-- blanks only: too few
blank : reading_of listing (32 ∷ 13 ∷ 10 ∷ []) 8 ≡ Err (BadText 3)
unfolding is_blank until_blank is_digit onward natural_from within integer_from pieces_from pieces first_bad numbers place_at wanted handed count_place first_place
    place19 answer reading_of
blank = refl

-- one number less
few : reading_of listing (50 ∷ 10 ∷ 48 ∷ 32 ∷ 49 ∷ 32 ∷ 49 ∷ 32 ∷ 49 ∷ 10 ∷ 49 ∷ 32 ∷ 45 ∷ 50 ∷ 10 ∷ []) 8 ≡ Err (BadText 15)
unfolding is_blank until_blank is_digit onward natural_from within integer_from pieces_from pieces first_bad numbers place_at wanted handed count_place first_place
    place19 answer reading_of
few = refl

-- one number more: where it begins
many : reading_of listing (50 ∷ 10 ∷ 48 ∷ 32 ∷ 49 ∷ 32 ∷ 49 ∷ 32 ∷ 49 ∷ 10 ∷ 49 ∷ 32 ∷ 45 ∷ 50 ∷ 32 ∷ 49 ∷ 32 ∷ 55 ∷ []) 8 ≡ Err (BadText 17)
unfolding is_blank until_blank is_digit onward natural_from within integer_from pieces_from pieces first_bad numbers place_at wanted handed count_place first_place
    place19 answer reading_of
many = refl

-- a plus is no sign
plus : reading_of listing (50 ∷ 32 ∷ 43 ∷ 49 ∷ []) 8 ≡ Err (BadText 2)
unfolding is_blank until_blank is_digit onward natural_from within integer_from pieces_from pieces first_bad numbers place_at wanted handed count_place first_place
    place19 answer reading_of
plus = refl

-- nor is a minus a number
minus : reading_of listing (50 ∷ 32 ∷ 45 ∷ []) 8 ≡ Err (BadText 2)
unfolding is_blank until_blank is_digit onward natural_from within integer_from pieces_from pieces first_bad numbers place_at wanted handed count_place first_place
    place19 answer reading_of
minus = refl

-- two numbers with no blank between them
two : reading_of listing (49 ∷ 45 ∷ 50 ∷ []) 8 ≡ Err (BadText 0)
unfolding is_blank until_blank is_digit onward natural_from within integer_from pieces_from pieces first_bad numbers place_at wanted handed count_place first_place
    place19 answer reading_of
two = refl

-- and 0x1 is none
hex : reading_of listing (55 ∷ 32 ∷ 48 ∷ 120 ∷ 49 ∷ []) 8 ≡ Err (BadText 2)
unfolding is_blank until_blank is_digit onward natural_from within integer_from pieces_from pieces first_bad numbers place_at wanted handed count_place first_place
    place19 answer reading_of
hex = refl

-- 2^63 is past 64 signed bits
large : reading_of listing (57 ∷ 50 ∷ 50 ∷ 51 ∷ 51 ∷ 55 ∷ 50 ∷ 48 ∷ 51 ∷ 54 ∷ 56 ∷ 53 ∷ 52 ∷ 55 ∷ 55 ∷ 53 ∷ 56 ∷ 48 ∷ 56 ∷ []) 8 ≡ Err (BadText 0)
unfolding is_blank until_blank is_digit onward natural_from within integer_from pieces_from pieces first_bad numbers place_at wanted handed count_place first_place
    place19 answer reading_of
large = refl

-- v out of range: v alone is handed on
range : reading_of listing (49 ∷ 48 ∷ 50 ∷ 52 ∷ 32 ∷ 53 ∷ []) 8 ≡ Ok 1
unfolding is_blank until_blank is_digit onward natural_from within integer_from pieces_from pieces first_bad numbers place_at wanted handed count_place first_place
    place19 answer reading_of
range = refl

-- leading zeros, and -0
zeros : reading_of listing (45 ∷ 48 ∷ 32 ∷ 48 ∷ 48 ∷ 55 ∷ []) 8 ≡ Ok 1
unfolding is_blank until_blank is_digit onward natural_from within integer_from pieces_from pieces first_bad numbers place_at wanted handed count_place first_place
    place19 answer reading_of
zeros = refl

least : decimal_of (negsuc 9223372036854775807) ≡ 45 ∷ 57 ∷ 50 ∷ 50 ∷ 51 ∷ 51 ∷ 55 ∷ 50 ∷ 48 ∷ 51 ∷ 54 ∷ 56 ∷ 53 ∷ 52 ∷ 55 ∷ 55 ∷ 53 ∷ 56 ∷ 48 ∷ 56 ∷ []
unfolding digits_onto digits decimal_of
least = refl

least_read : integer_from (45 ∷ 57 ∷ 50 ∷ 50 ∷ 51 ∷ 51 ∷ 55 ∷ 50 ∷ 48 ∷ 51 ∷ 54 ∷ 56 ∷ 53 ∷ 52 ∷ 55 ∷ 55 ∷ 53 ∷ 56 ∷ 48 ∷ 56 ∷ [])
    ≡ Some (negsuc 9223372036854775807)
unfolding is_digit onward natural_from within integer_from
least_read = refl
