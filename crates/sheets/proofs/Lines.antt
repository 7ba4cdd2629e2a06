-- The lines of a sheet, one after another: the lines of the first i pairs, with one more (`lines_more`); the line i of them is that of the answer for the
-- pair i (`line_there`); what the loop over the pairs holds (`Going`, `going_none`, `going_more`); and the line of either answer (`line-…`).
-- Assumes nothing.
use Rattle.std.specs.Prelude.{Ok, Err}
use mathlib.Core.Path.{◌≡◌, refl, sym, ◌∙◌, ap, subst}
use mathlib.Core.Bool.{Bool}
use mathlib.Core.List.{List, [], ◌∷◌, ◌++◌, append_assoc}
use Prim.Native.Nat.{ℕ, zero, suc, ◌+◌, ◌*◌, ◌≤◌, ◌<◌}
use native.Mathlib.Decide.{dec_lt}
use native.Mathlib.Omega.{arith}
use lib.ListN.{length, take, drop}
use lib.Seq.{take_at, drop_at}
use lib.IntN.{ℤ, pos}
use Rattle.matrix.specs.Matrix.{of_list}
use Rattle.call.specs.Space.{work_length}
use Rattle.symbol.specs.Symbol.{IsSymbol}
use Rattle.call.specs.declared.refusal.Refusal.{Refusal}
use Rattle.call.specs.Inner.Fills.{Fills}
use Rattle.word.specs.Answer.{four, found_word, sign_number, found_if, query_of, word_left, word_at}
use Rattle.call.specs.Refusal.{Answer, refusal_number, refusal_place}
use Rattle.word.specs.declared.FoundWord.{FoundWord}
use Rattle.sheets.specs.Sheet.{matrix_a, matrix_b, word_end, WordSpace, space_at, answer_at, line_of, lines_to, line_in}
use Rattle.sheets.specs.Inner.Pairs.{pair_of, row_at}
use Rattle.sheets.proofs.Rows.{two_rows, rows_length, rows_more}
use Rattle.sheets.proofs.Single.{single, pair_run, pair_as, pair_left, part_A, part_B}

pub length_line : (r : Answer FoundWord) → length (line_of r) ≡ 4
length_line (Ok u) = refl
length_line (Err f) = refl

module _ (v : ℕ) (t p : List ℤ) (work : ℕ) (out : List ℤ) where
  abbrev front : ℕ → List ℤ
  front i = lines_to v t p work out i

  lines_none : front 0 ≡ []
  unfolding lines_to
  lines_none = refl

  lines_next : (i : ℕ) → front (suc i) ≡ front i ++ line_of (answer_at v t p work out i)
  unfolding lines_to
  lines_next i = refl

  pub length_lines : (i : ℕ) → length (front i) ≡ 4 * i
  length_lines = rows_length 4 (λ i. line_of (answer_at v t p work out i)) (λ i. length_line (answer_at v t p work out i)) front lines_none lines_next

  pub lines_more : (i : ℕ) (lines lines' : List ℤ) → lines' ≡ front i ++ drop (4 * i) lines
      → row_at 4 i (line_of (answer_at v t p work out i)) lines' ≡ front (suc i) ++ drop (4 * suc i) lines
  lines_more = rows_more 4 (λ i. line_of (answer_at v t p work out i)) (λ i. length_line (answer_at v t p work out i)) front lines_none lines_next

  line_last : (i : ℕ) (rest : List ℤ) → line_in (front (suc i) ++ rest) i ≡ line_of (answer_at v t p work out i)
  unfolding lines_to
  line_last i rest =
      let here = line_of (answer_at v t p work out i) in
      ap (λ (x : List ℤ). take 4 (drop (4 * i) x)) (append_assoc (front i) here rest)
      ∙ ap (take 4) (drop_at (front i) (here ++ rest) (4 * i) (length_lines i))
      ∙ take_at here rest 4 (length_line (answer_at v t p work out i))

  line_step : (n i : ℕ) (rest : List ℤ) → i < n → ((r : List ℤ) → line_in (front n ++ r) i ≡ line_of (answer_at v t p work out i))
      → line_in (front (suc n) ++ rest) i ≡ line_of (answer_at v t p work out i)
  unfolding lines_to
  line_step n i rest h k =
      let here = line_of (answer_at v t p work out n) in
      ap (λ (x : List ℤ). take 4 (drop (4 * i) x)) (append_assoc (front n) here rest) ∙ k (here ++ rest)

  pub line_there : (n i : ℕ) (rest : List ℤ) → i < n → line_in (front n ++ rest) i ≡ line_of (answer_at v t p work out i)
  line_there zero i rest h = absurd (omega arith)
  line_there (suc n) i rest h = elim (dec_lt i n) [
    | yes l ↦ line_step n i rest l (λ r. line_there n i r l)
    | no l ↦
        let e : n ≡ i = omega arith in
        subst (λ (m : ℕ). line_in (front (suc m) ++ rest) i ≡ line_of (answer_at v t p work out i)) (sym e) (line_last i rest)
  ]

-- ---- what the loop over the pairs holds before the pair i, from `lines` and `out` on

pub record Going (v : ℕ) (t p : List ℤ) (w : List ℕ) (lines out : List ℤ) (i : ℕ) (lines' out' : List ℤ) (next : ℕ) : Type 0 where
  pub table : lines' ≡ lines_to v t p (length w) out i ++ drop (4 * i) lines
  pub space : out' ≡ (space_at v t p (length w) out i).letters
  pub place : next ≡ (space_at v t p (length w) out i).next

pub going_none : (v : ℕ) (t p : List ℤ) (w : List ℕ) (lines out : List ℤ) → Going v t p w lines out 0 lines out 0
unfolding lines_to space_at
going_none v t p w lines out = record { table = refl; space = refl; place = refl }

module _ {v : ℕ} {t p : List ℤ} {w : List ℕ} {lines out : List ℤ} {i : ℕ} {lines' out' : List ℤ} {next : ℕ} (ok : IsSymbol v t) (h : work_length ≤ length w)
    (g : Going v t p w lines out i lines' out' next) (part : List ℤ) (cut : part ≡ take 8 (drop (8 * i) p)) where
  abbrev a : List ℤ
  a = matrix_a p i

  abbrev b : List ℤ
  b = matrix_b p i

  abbrev at : WordSpace
  at = space_at v t p (length w) out i

  abbrev answer : (Answer FoundWord)
  answer = answer_at v t p (length w) out i

  is_A : four part 0 ≡ a
  is_A = ap (λ (l : List ℤ). four l 0) cut ∙ part_A p (8 * i)

  is_B : four part 4 ≡ b
  is_B = ap (λ (l : List ℤ). four l 4) cut ∙ part_B p (8 * i)

  answer_is : (r : Answer FoundWord) → r ≡ pair_of v t a b (length out') next → r ≡ answer
  answer_is r e =
      e
      ∙ single ok (length w) h a b (length out') next
      ∙ ap (λ (o : List ℤ). query_of v t a b (length w) (length o) next) g.space
      ∙ ap (λ (n : ℕ). query_of v t a b (length w) (length at.letters) n) g.place

  pub going_more : (r : Answer FoundWord) (lines₁ out₁ : List ℤ) (next₁ : ℕ)
      → Fills (pair_run v t (four part 0) (four part 4) out' out₁ next) (found_if v t (four part 0) (four part 4) next) r
      → lines₁ ≡ row_at 4 i (line_of r) lines' → next₁ ≡ word_end r next
      → (j : ℕ) → j ≡ suc i → Going v t p w lines out j lines₁ out₁ next₁
  unfolding space_at
  going_more r lines₁ out₁ next₁ e q n j m =
      let f = pair_as v t is_A is_B {out = out'} {out' = out₁} e in
      let z = answer_is r f.answer in
      subst (λ (k : ℕ). Going v t p w lines out k lines₁ out₁ next₁) (sym m) (record {
        table = q ∙ ap (λ (x : Answer FoundWord). row_at 4 i (line_of x) lines') z ∙ lines_more v t p (length w) out i lines lines' g.table;
        space =
            pair_left v t a b out' out₁ next f
            ∙ ap (λ (x : Answer FoundWord). word_left x (found_word v t (of_list a) (of_list b)) out') z
            ∙ ap (word_left answer (found_word v t (of_list a) (of_list b))) g.space;
        place = n ∙ ap (λ (x : Answer FoundWord). word_end x next) z ∙ ap (word_end answer) g.place;
      })

-- ---- the line of either answer

module _ (i : ℕ) (lines : List ℤ) {lines₁ lines₂ : List ℤ} (h : 4 * i + 4 ≤ length lines) (r : Answer FoundWord) where
  -- by two rows
  by_rows : (x y : List ℤ) → length x ≡ 2 → x ++ y ≡ line_of r → lines₁ ≡ row_at 2 (2 * i) x lines → lines₂ ≡ row_at 2 (2 * i + 1) y lines₁
      → lines₂ ≡ row_at 4 i (line_of r) lines
  by_rows x y l e f g = g ∙ ap (row_at 2 (2 * i + 1) y) f ∙ two_rows i x y lines l h ∙ ap (λ (z : List ℤ). row_at 4 i z lines) e

  pub line_word : (s n : ℕ) (sign : Bool) → r ≡ Ok (word_at s n sign) → (x y z : ℤ) → x ≡ pos s → y ≡ pos n → z ≡ sign_number sign
      → lines₁ ≡ row_at 2 (2 * i) (pos 0 ∷ x ∷ []) lines → lines₂ ≡ row_at 2 (2 * i + 1) (y ∷ z ∷ []) lines₁ → lines₂ ≡ row_at 4 i (line_of r) lines
  line_word s n sign e x y z f g k =
      let line : (pos 0 ∷ x ∷ y ∷ z ∷ []) ≡ line_of (Ok (word_at s n sign)) = cc (f, g, k) in
      by_rows (pos 0 ∷ x ∷ []) (y ∷ z ∷ []) refl (line ∙ ap line_of (sym e))

  pub line_refused : (f : Refusal) → r ≡ Err f → lines₁ ≡ row_at 2 (2 * i) (pos (refusal_number f) ∷ pos (refusal_place f) ∷ []) lines
      → lines₂ ≡ row_at 2 (2 * i + 1) (pos 0 ∷ pos 0 ∷ []) lines₁ → lines₂ ≡ row_at 4 i (line_of r) lines
  line_refused f e = by_rows (pos (refusal_number f) ∷ pos (refusal_place f) ∷ []) (pos 0 ∷ pos 0 ∷ []) refl (ap line_of (sym e))
