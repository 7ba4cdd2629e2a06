-- WHAT A SHEET MEANS where it isn't refused: for each pair the claim of the pair query (word/specs/Claim.antt), and its
-- word still stands at the end; and the same by the line table and the word space that the caller then holds.
--
--   LineMeans     of the pair i, with the answer r of its query: the claim, in the word space before it; and a word
--                 that was returned stands, when the sheet is done, where its line says, in the word space out' that
--                 the sheet leaves
--   place_in n a b what the exported query would write as its place, by the first three numbers n, a and b of a line:
--                 the length of a word, and else the refusal's place
--   LineSays      of the pair i, BY THE FOUR NUMBERS OF ITS LINE in the table lines' and the letters in out': what the
--                 numbers of the exported query say (`QuerySays`, `SignSays`). Where the first is 0, as many letters as
--                 the third says, from the place that the second says, times A are the fourth, 1 or -1, times B; they
--                 are the normal form. Where it is 10, there is no such product
--   SheetMeans    the place that a sheet tells is the number of pairs, and these hold for each
--   sheet_call    THE EXPORTED CALL: the steps of a sheet, the number of pairs, and what a number 0 says
use Rattle.std.specs.Prelude.{◌≡◌, Bool, List, [], ◌∷◌, ℕ, suc, ◌<◌, eqb, length, ℤ, pos, Ok}
use Rattle.basics.specs.Choice.{pick}
use Rattle.matrix.specs.Matrix.{of_list}
use Rattle.call.specs.Call.{Lent, Contract}
use Rattle.word.specs.Answer.{found_word, part_of, word_at}
use Rattle.word.specs.Claim.{Claim, QuerySays, SignSays}
use Rattle.sheets.specs.Sheet.{matrix_a, matrix_b, pairs_in, space_at, answer_at, line_in, sheet_steps}

pub record LineMeans (v : ℕ) (t p : List ℤ) (w : List ℕ) (out out' : List ℤ) (i : ℕ) : Type 0 where
  pub claim : Claim v t (matrix_a p i) (matrix_b p i) w
      (space_at v t p (length w) out i).letters (space_at v t p (length w) out i).next
      (answer_at v t p (length w) out i) (space_at v t p (length w) out (suc i)).letters
  pub stands : (start n : ℕ) (sign : Bool) → answer_at v t p (length w) out i ≡ Ok (word_at start n sign)
      → part_of out' start n ≡ found_word v t (of_list (matrix_a p i)) (of_list (matrix_b p i))

abbrev pub place_in : (n a b : ℕ) → ℕ
place_in n a b = pick (eqb n 0) b a

pub record LineSays (v : ℕ) (t p : List ℤ) (w : List ℕ) (lines' out' : List ℤ) (i : ℕ) : Type 0 where
  pub number : ℕ
  pub second : ℕ
  pub third : ℕ
  pub sign : ℤ
  pub line : line_in lines' i ≡ pos number ∷ pos second ∷ pos third ∷ sign ∷ []
  pub query : QuerySays v t (matrix_a p i) (matrix_b p i) w second number (place_in number second third) out'
  pub signed : SignSays v t (matrix_a p i) (matrix_b p i) second number third sign out'

pub record SheetMeans (v : ℕ) (t p : List ℤ) (w : List ℕ) (out lines' out' : List ℤ) (place : ℕ) : Type 0 where
  pub pairs : place ≡ pairs_in p
  pub lines : (i : ℕ) → i < place → LineMeans v t p w out out' i
  pub says : (i : ℕ) → i < place → LineSays v t p w lines' out' i

abbrev pub sheet_call : (v : ℕ) (t p : List ℤ) → Lent (List ℕ) → (lines out : Lent (List ℤ)) → Contract
sheet_call v t p w lines out = record {
  steps = sheet_steps v t p w lines out;
  count = pairs_in p;
  Says = λ number place.
      number ≡ 0 → SheetMeans v t p w.entry.now out.entry.now lines.exit.now out.exit.now place;
}
