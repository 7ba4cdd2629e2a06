-- WHAT THE PROGRAM `query` WRITES, byte for byte (docs/CONVENTIONS.md, 10.6).
--
--   word_head s                   `word` and the sign s
--   letters_lent                  the letters that the program lends
--   said r l                      the line for an answer r of a query whose walk writes the letters l
--   symbol_in, first_in, second_in  the symbol's table, A and B in the numbers ns of a text: A and B are the last eight
--   query_answer, answer_word     the answer of the query, and the word that its walk writes
--   replied_to ns                 the line for the numbers ns. v alone is out of range, and that is refusal 1
--   query_format                  v from 1 to 1,023, and then 3v + 1 numbers and two matrices of four
--   reply_of longer text          the bytes for a text
--   Replied ns bytes              they are the line of the query's answer, and of that answer the claim holds in all
--                                 spaces of the program's lengths, so that `refused 10 0` means that there is no such
--                                 product, and the letters are one, the only reduced and the shortest, with that sign
--   ReplyMeans longer text bytes  that holds for every text whose numbers are a symbol's and a pair's
use Rattle.std.specs.Prelude.{◌≡◌, Bool, true, false, List, ℕ, ◌-◌, ◌≤◌, ltb, ℤ, length, take, drop, Ok, Err}
use Rattle.matrix.specs.Matrix.{of_list}
use Rattle.basics.specs.Choice.{pick}
use Rattle.call.specs.Refusal.{Answer}
use Rattle.call.specs.declared.refusal.Refusal.TheVariants.{BadVertexCount}
use Rattle.call.specs.Space.{work_length}
use Rattle.text.specs.Piece.{pieces, numbers}
use Rattle.text.specs.Reading.{input_of, input_gives, count_in}
use Rattle.text.specs.declared.Format.{Format}
use Rattle.decimal.specs.Ascii.{ascii}
use Rattle.text.specs.Line.{line, refusal_line}
use Rattle.word.specs.Answer.{four, found_word, query_of, word_left}
use Rattle.word.specs.Claim.{Claim}
use Rattle.word.specs.declared.FoundWord.{FoundWord}

abbrev pub word_head : Bool → List ℕ
word_head true = ascii "word +"
word_head false = ascii "word -"

abbrev pub letters_lent : ℕ
letters_lent = 16384

abbrev pub said : Answer FoundWord → List ℤ → List ℕ
said (Ok u) l = line (word_head u.plus) l
said (Err f) l = refusal_line f

-- ---- the numbers of a text

abbrev pub symbol_in : List ℤ → List ℤ
symbol_in ns = take (length ns - 9) (drop 1 ns)

abbrev pub first_in : List ℤ → List ℤ
first_in ns = four ns (length ns - 8)

abbrev pub second_in : List ℤ → List ℤ
second_in ns = four ns (length ns - 4)

abbrev pub query_answer : List ℤ → (Answer FoundWord)
query_answer ns = query_of (count_in ns) (symbol_in ns) (first_in ns) (second_in ns) work_length letters_lent 0

abbrev pub answer_word : List ℤ → List ℤ
answer_word ns = found_word (count_in ns) (symbol_in ns) (of_list (first_in ns)) (of_list (second_in ns))

unfoldable pub replied_to : List ℤ → List ℕ
replied_to ns =
    pick (ltb (length ns) 10) (refusal_line BadVertexCount) (said (query_answer ns) (answer_word ns))

-- ---- the text

abbrev pub query_format : Format
query_format = record { least = 1; most = 1023; each = 3; more = 10 }

unfoldable pub reply_of : Bool → List ℕ → List ℕ
reply_of longer text = input_gives query_format 3079 replied_to refusal_line longer text

-- ---- what it means

pub record Replied (ns : List ℤ) (bytes : List ℕ) : Type 0 where
  pub line : bytes ≡ said (query_answer ns) (answer_word ns)
  pub claim : (w : List ℕ) (letters : List ℤ) → length w ≡ work_length → length letters ≡ letters_lent
      → Claim (count_in ns) (symbol_in ns) (first_in ns) (second_in ns) w letters 0 (query_answer ns)
      (word_left (query_answer ns) (answer_word ns) letters)

abbrev pub ReplyMeans : (longer : Bool) (text bytes : List ℕ) → Type 0
ReplyMeans longer text bytes =
    (k : ℕ) → 10 ≤ k → input_of longer query_format text 3079 ≡ Ok k → Replied (take k (numbers (pieces text))) bytes
