-- The slices that a program lends for the tables of S and R that it reads: what is left in them.
--
--   filled t out               the table t at the front of what stood there
--   numbers_left ..            what is left where the numbers of the text are put: those handed on at its front, or all
--                              as it was
--   left_of_s, left_of_r       what is left where the tables of S and R are put: the tables that the text asks for at
--                              the front
--   tables_read a              the answer of `read_tables` to what is asked: how many points its tables have, or the
--                              refusal
--   TablesRead a s r x s' r'   `read_tables` answers x, and leaves s' and r' where s and r stood: the tables that the
--                              text asks for stand at their fronts
use Rattle.std.specs.Prelude.{Bool, List, ◌++◌, ℕ, ◌≤◌, ◌≡◌, ℤ, length, take, drop, Ok, Err}
use Rattle.call.specs.Refusal.{Filled}
use Rattle.text.specs.Piece.{pieces, numbers}
use Rattle.text.specs.Reading.{input_of}
use Rattle.text.specs.Inner.Inside.{left_by}
use Rattle.symbol_texts.specs.ImportAnswer.{Request, tables, refused, import_format}

unfoldable pub filled : (t out : List ℕ) → List ℕ
filled t out = t ++ drop (length t) out

unfoldable pub numbers_left : Bool → (text : List ℕ) → List ℤ → List ℤ
numbers_left longer text ns = left_by (input_of longer import_format text 6133) (numbers (pieces text)) ns

abbrev pub left_of_s : Request → List ℕ → List ℕ
left_of_s (tables s r) out = filled s out
left_of_s (refused f) out = out

abbrev pub left_of_r : Request → List ℕ → List ℕ
left_of_r (tables s r) out = filled r out
left_of_r (refused f) out = out

abbrev pub tables_read : Request → Filled
tables_read (tables s r) = Ok (length s)
tables_read (refused f) = Err f

pub record TablesRead (a : Request) (s r : List ℕ) (answer : Filled) (s' r' : List ℕ) : Type 0 where
  pub answered : answer ≡ tables_read a
  pub for_S : s' ≡ left_of_s a s
  pub for_R : r' ≡ left_of_r a r
  pub most : (n : ℕ) → answer ≡ Ok n → n ≤ 3066
  pub fronts : (n : ℕ) → answer ≡ Ok n → tables (take n s') (take n r') ≡ a
