-- What a query's line is, and the slices that the program lends for one.
--   replied v t a b            the line for the symbol in t and the pair A, B; the word starts at the place 0
--   ReplySpaces w letters out  the work space and the word space have the lengths that the program names, and the bytes
--                              that are written are long enough for every answer
use Rattle.std.specs.Prelude.{◌≡◌, List, ℕ, ◌≤◌, ℤ, length}
use Rattle.call.specs.Space.{work_length}
use Rattle.matrix.specs.Matrix.{of_list}
use Rattle.word.specs.Answer.{found_word, query_of}
use Rattle.query_text.specs.Reply.{letters_lent, said}

unfoldable pub replied : (v : ℕ) (t a b : List ℤ) → List ℕ
replied v t a b = said (query_of v t a b work_length letters_lent 0) (found_word v t (of_list a) (of_list b))

pub record ReplySpaces (w : List ℕ) (letters : List ℤ) (out : List ℕ) : Type 0 where
  pub work : length w ≡ work_length
  pub lent : length letters ≡ letters_lent
  pub out_long : 131072 ≤ length out
