-- What stood in the word space before the first query changes no line: the answers depend on its length alone.
--     next-same, answer-same     of two word spaces of one length, where the next word starts, and the answer for a pair
--     lines_same                 so the lines are the same
--     print_same                 and those of the program's array are those of `unused`
-- Assumes nothing.
use mathlib.Core.Path.{◌≡◌, refl, sym, ◌∙◌, ap, subst}
use mathlib.Core.List.{List, ◌++◌}
use Prim.Native.Nat.{ℕ, zero, suc}
use lib.IntN.{ℤ, pos}
use lib.ListN.{length, length-replicate}
use Rattle.matrix.specs.Matrix.{of_list}
use Rattle.call.specs.Space.{work_length}
use Rattle.word.specs.Answer.{found_word, query_of}
use Rattle.call.specs.Refusal.{Answer}
use Rattle.word.specs.declared.FoundWord.{FoundWord}
use Rattle.query_text.specs.Reply.{said, letters_lent}
use Rattle.sheets.specs.Sheet.{matrix_a, matrix_b, word_end, space_at, answer_at}
use Rattle.sheets.proofs.Spaces.{kept}
use Rattle.query_text.specs.Printed.{pair_lines, unused}

module _ (v : ℕ) (t p : List ℤ) (out out' : List ℤ) (e : length out ≡ length out') where
  module _ (w : List ℕ) where
    -- the answer for the pair i, where the next word starts at the same place
    answer_by : (i : ℕ) → (space_at v t p (length w) out i).next ≡ (space_at v t p (length w) out' i).next
        → answer_at v t p (length w) out i ≡ answer_at v t p (length w) out' i
    answer_by i h =
        let a = matrix_a p i in
        let b = matrix_b p i in
        let long = (kept v t p w out i).long ∙ e ∙ sym (kept v t p w out' i).long in
        ap (λ (n : ℕ). query_of v t a b (length w) n (space_at v t p (length w) out i).next) long
        ∙ ap (query_of v t a b (length w) (length (space_at v t p (length w) out' i).letters)) h

    next_same : (i : ℕ) → (space_at v t p (length w) out i).next ≡ (space_at v t p (length w) out' i).next
    unfolding space_at
    next_same zero = refl
    next_same (suc i) =
        let h = next_same i in
        ap (λ (r : Answer FoundWord). word_end r (space_at v t p (length w) out i).next) (answer_by i h)
        ∙ ap (word_end (answer_at v t p (length w) out' i)) h

    answer_same : (work : ℕ) → length w ≡ work → (i : ℕ) → answer_at v t p work out i ≡ answer_at v t p work out' i
    answer_same work h i = subst (λ (k : ℕ). answer_at v t p k out i ≡ answer_at v t p k out' i) h (answer_by i (next_same i))

  pub lines_same : (w : List ℕ) → length w ≡ work_length → (n : ℕ) → pair_lines v t p out n ≡ pair_lines v t p out' n
  unfolding pair_lines
  lines_same w h zero = refl
  lines_same w h (suc i) =
      let l = found_word v t (of_list (matrix_a p i)) (of_list (matrix_b p i)) in
      ap (λ (x : List ℕ). x ++ said (answer_at v t p work_length out i) l) (lines_same w h i)
      ∙ ap (λ (r : Answer FoundWord). pair_lines v t p out' i ++ said r l) (answer_same w work_length h i)

length_unused : length unused ≡ letters_lent
unfolding unused
length_unused = length-replicate letters_lent (pos 0)

pub print_same : (v : ℕ) (t p letters : List ℤ) (w : List ℕ) → length letters ≡ letters_lent → length w ≡ work_length → (n : ℕ)
    → pair_lines v t p letters n ≡ pair_lines v t p unused n
print_same v t p letters w e h n = lines_same v t p letters unused (e ∙ sym length_unused) w h n
