-- The line table of a sheet that is made, printed line by line: the lines that the program `query` would write.
--     line-said, used-said        the line of an answer, and the letters that it names
--     lines_printed               the first lines of the table
--     used_next                   and they name just the letters before the place where the next word starts
--     lines_room                  so that there is room for them
-- Assumes nothing.
use Rattle.std.specs.Prelude.{Ok, Err}
use mathlib.Core.Path.{◌≡◌, refl, ◌∙◌, ap}
use mathlib.Core.Bool.{Bool, true, false}
use mathlib.Core.List.{List, [], ◌∷◌, ◌++◌}
use Prim.Native.Nat.{ℕ, zero, suc, ◌+◌, ◌*◌, ◌≤◌, ◌<◌}
use native.Mathlib.Omega.{arith}
use lib.Dec.{eqb}
use lib.IntN.{ℤ}
use lib.ListN.{length}
use borrow.Author.Tests.{ne_eqb}
use Rattle.basics.proofs.Choice.{pick_false}
use Rattle.matrix.specs.Matrix.{of_list}
use Rattle.call.specs.declared.refusal.Refusal.{Refusal}
use Rattle.call.specs.Space.{work_length}
use Rattle.decimal.specs.Ascii.{ascii}
use Rattle.text.specs.Line.{natural, line, refusal_line}
use Rattle.word.specs.Answer.{found_word, part_of, word_at}
use Rattle.call.specs.Refusal.{Answer, refusal_number, refusal_place}
use Rattle.word.specs.declared.FoundWord.{FoundWord}
use Rattle.query_text.specs.Reply.{said, word_head, letters_lent}
use Rattle.sheets.specs.Sheet.{matrix_a, matrix_b, word_end, space_at, answer_at, line_of, lines_to, line_in}
use Rattle.sheets.proofs.Lines.{line_there}
use Rattle.sheets.proofs.Said.{never_zero}
use Rattle.sheets.proofs.Spaces.{kept, word_stood, line_means}
use Rattle.query_text.specs.Printed.{pair_lines}
use Rattle.query_text.specs.Inner.SheetTable.{printed_row, used, printed_rows, used_to, LinesRoom}

-- ---- an answer

module _ (r : Answer FoundWord) (l letters : List ℤ) (stands : (s n : ℕ) (sign : Bool) → r ≡ Ok (word_at s n sign) → part_of letters s n ≡ l)
    (Some_number : (f : Refusal) → r ≡ Err f → refusal_number f ≡ 0 → ⊥) where
  word_by : (s n : ℕ) (sign : Bool) → r ≡ Ok (word_at s n sign)
      → printed_row (line_of (Ok (word_at s n sign))) letters ≡ said (Ok (word_at s n sign)) l
  unfolding printed_row
  word_by s n true e = ap (line (word_head true)) (stands s n true e)
  word_by s n false e = ap (line (word_head false)) (stands s n false e)

  line_by : (x : Answer FoundWord) → r ≡ x → printed_row (line_of x) letters ≡ said x l
  unfolding printed_row refusal_line
  line_by (Ok u) e = word_by u.start u.letters u.plus e
  line_by (Err f) e =
      pick_false (eqb (refusal_number f) 0) (line (word_head true) (part_of letters (refusal_place f) 0))
      (line (ascii "refused") (natural (refusal_number f) ∷ natural (refusal_place f) ∷ []))
      (ne_eqb (refusal_number f) 0 (Some_number f e))

  pub line_said : printed_row (line_of r) letters ≡ said r l
  line_said = line_by r refl

  used_by : (x : Answer FoundWord) → r ≡ x → (start : ℕ) → ((s n : ℕ) (sign : Bool) → x ≡ Ok (word_at s n sign) → (s ≡ start) × (n ≡ length l))
      → start + used (line_of x) letters ≡ word_end x start
  unfolding used
  used_by (Ok u) e start h = let k = h u.start u.letters u.plus refl in omega (arith, ap length (stands u.start u.letters u.plus e), k.0, k.1)
  used_by (Err f) e start h =
      let z = pick_false (eqb (refusal_number f) 0) (length (part_of letters (refusal_place f) 0)) 0 (ne_eqb (refusal_number f) 0 (Some_number f e)) in
      omega (arith, z)

  pub used_said : (start : ℕ) → ((s n : ℕ) (sign : Bool) → r ≡ Ok (word_at s n sign) → (s ≡ start) × (n ≡ length l))
      → start + used (line_of r) letters ≡ word_end r start
  used_said start h = used_by r refl start h

-- ---- the table that a sheet of n pairs leaves, and its word space

module _ (v : ℕ) (t p : List ℤ) (w : List ℕ) (out : List ℤ) (n : ℕ) (rest : List ℤ) where
  abbrev table : List ℤ
  table = lines_to v t p (length w) out n ++ rest

  abbrev letters : List ℤ
  letters = (space_at v t p (length w) out n).letters

  abbrev answer : ℕ → (Answer FoundWord)
  answer i = answer_at v t p (length w) out i

  abbrev word : ℕ → List ℤ
  word i = found_word v t (of_list (matrix_a p i)) (of_list (matrix_b p i))

  module _ (i : ℕ) (h : i < n) where
    numbered : (f : Refusal) → answer i ≡ Err f → refusal_number f ≡ 0 → ⊥
    numbered f e = never_zero (answer i) f (line_means v t p w out n i h).claim e

    line_is : printed_row (line_in table i) letters ≡ said (answer i) (word i)
    line_is =
        ap (λ (x : List ℤ). printed_row x letters) (line_there v t p (length w) out n i rest h)
        ∙ line_said (answer i) (word i) letters (line_means v t p w out n i h).stands numbered

    used_is : (space_at v t p (length w) out i).next + used (line_in table i) letters ≡ (space_at v t p (length w) out (suc i)).next
    unfolding space_at
    used_is =
        let at = space_at v t p (length w) out i in
        ap (λ (x : List ℤ). at.next + used x letters) (line_there v t p (length w) out n i rest h)
        ∙ used_said (answer i) (word i) letters (line_means v t p w out n i h).stands numbered at.next
        (λ s k sign e. let m = word_stood v t (matrix_a p i) (matrix_b p i) w at.letters at.next s k sign e in (m.place, m.long))

  used_next : (i : ℕ) → i ≤ n → used_to table letters i ≡ (space_at v t p (length w) out i).next
  unfolding used_to space_at
  used_next zero h = refl
  used_next (suc i) h = ap (λ (k : ℕ). k + used (line_in table i) letters) (used_next i (omega arith)) ∙ used_is i (omega arith)

  pub lines_room : (bytes : List ℕ) → n ≤ 256 → 4 * n ≤ length table → length out ≡ letters_lent → 131072 ≤ length bytes → LinesRoom table letters n bytes
  lines_room bytes few long e room = record {
    few = few;
    table = long;
    word_space = λ i h. omega (arith, used_next i h, (kept v t p w out i).next_in, e);
    out_long = room;
  }

  pub lines_printed : length w ≡ work_length → (i : ℕ) → i ≤ n → printed_rows table letters i ≡ pair_lines v t p out i
  unfolding printed_rows pair_lines
  lines_printed e zero h = refl
  lines_printed e (suc i) h =
      ap (λ (x : List ℕ). x ++ printed_row (line_in table i) letters) (lines_printed e i (omega arith))
      ∙ ap (λ (x : List ℕ). pair_lines v t p out i ++ x)
      (line_is i (omega arith) ∙ ap (λ (k : ℕ). said (answer_at v t p k out i) (word i)) e)
