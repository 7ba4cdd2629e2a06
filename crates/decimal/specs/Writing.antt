-- What `copy` and `write` answer, and what they and `put` leave in the lent slice.
--     room_most                the greatest number of 64 bits: no slice is longer
--     written_of k room at      the answer where k bytes are to stand from the offset `at` on in a slice of `room`
--                              bytes. Where they do not fit, 11 with the length that they need, or with room_most where
--                              that is greater.
--     bytes_placed bs at out   out with the bytes bs from the offset `at` on, in place of those that stood there
--     standing w bs at out     what the slice holds in the end, where it held `out` and the answer is w
--     Puts bs at end out out'  out' is out with the bytes bs from the offset `at` on, in place of those that stood
--                              there; they end before the offset `end`
use Rattle.std.specs.Prelude.{◌≡◌, ℕ, ◌+◌, min, List, ◌++◌, leb, length, take, drop, Ok, Err}
use Rattle.call.specs.Refusal.{Filled}
use Rattle.call.specs.declared.refusal.Refusal.TheVariants.{TooShort}
use Rattle.basics.specs.Choice.{pick}

abbrev pub room_most : ℕ
room_most = 18446744073709551615

unfoldable pub written_of : ℕ → ℕ → ℕ → Filled
written_of k room at = pick (leb (at + k) room) (Ok (at + k)) (Err (TooShort (min (at + k) room_most)))

unfoldable pub bytes_placed : List ℕ → ℕ → List ℕ → List ℕ
bytes_placed bs at out = take at out ++ bs ++ drop (at + length bs) out

unfoldable pub standing : Filled → List ℕ → ℕ → List ℕ → List ℕ
standing (Ok e) bs at out = bytes_placed bs at out
standing (Err f) bs at out = out

pub record Puts (bs : List ℕ) (at end : ℕ) (out out' : List ℕ) : Type 0 where
  pub end_is : end ≡ at + length bs
  pub left : out' ≡ bytes_placed bs at out
