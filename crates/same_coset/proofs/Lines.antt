-- The lines of many pairs, one after another: the lines of the first i pairs, with one more (`pairs_more`); the line of an answer in other words (`line_is`).
-- And one pair of many: its answer is the single call's (`single`). Assumes nothing.
use Rattle.std.specs.Prelude.{Ok, Err}
use mathlib.Core.Path.{◌≡◌, refl, sym, ◌∙◌, ap}
use mathlib.Core.Bool.{Bool, true, false}
use mathlib.Core.List.{List, [], ◌++◌}
use Prim.Native.Nat.{ℕ, suc, ◌+◌, ◌*◌, ◌≤◌}
use native.Mathlib.Omega.{arith}
use lib.ListN.{length, take, drop}
use lib.IntN.{ℤ}
use Rattle.call.specs.Space.{work_length}
use Rattle.call.specs.declared.refusal.Refusal.{Refusal}
use Rattle.call.specs.Refusal.{◌or_else◌, Checked, Decision}
use Rattle.call.proofs.Answers.{then_next}
use Rattle.call.specs.Call.{length_check}
use Rattle.call.specs.Inner.Fills.{decided}
use Rattle.call.proofs.Laws.{room_long}
use Rattle.matrix.specs.Matrix.{of_list}
use Rattle.symbol.specs.Check.{symbol_check}
use Rattle.symbol.specs.Symbol.{IsSymbol}
use Rattle.symbol.proofs.Accepted.{accepted}
use Rattle.word.specs.Answer.{four, matrices_check, closes}
use Rattle.sheets.specs.Sheet.{matrix_a, matrix_b}
use Rattle.sheets.specs.Inner.Pairs.{row_at}
use Rattle.sheets.proofs.Rows.{rows_length, rows_more}
use Rattle.sheets.proofs.Single as sheet
use Rattle.sheets.proofs.Single.{SmallRefusal}
use Rattle.same_coset.specs.Answer.{same_coset_of}
use Rattle.same_coset.specs.Pairs.{coset_line, coset_at, coset_lines}
use Rattle.same_coset.specs.Inner.Ready.{pair_shared, PairShared, LineFits, PairsShared}

-- ---- one line

length_line : (r : Decision) → length (coset_line r) ≡ 2
length_line (Ok true) = refl
length_line (Ok false) = refl
length_line (Err f) = refl

pub line_is : (i : ℕ) (lines : List ℤ) (r s : Decision) → r ≡ s → row_at 2 i (coset_line s) lines ≡ row_at 2 i (coset_line r) lines
line_is i lines r s e = ap (λ (x : Decision). row_at 2 i (coset_line x) lines) (sym e)

-- ---- its numbers fit

pub fits_yes_no : (k : Bool) → LineFits (Ok k)
fits_yes_no k = record { refused = λ f e. cc }

pub fits_refused : (f : Refusal) → SmallRefusal (Err f) → LineFits (Err f)
fits_refused f h = record { refused = λ g e. let z : f ≡ g = cc in (rw (← z) h.0, rw (← z) h.1) }

-- ---- one pair of many

pub single : {v : ℕ} {t : List ℤ} → IsSymbol v t → (work : ℕ) → work_length ≤ work → (a b : List ℤ) → pair_shared v t a b ≡ same_coset_of v t a b work
single {v} {t} ok work h a b =
    let space = length_check work_length work in
    ap (decided (closes v t (of_list a) (of_list b)))
    (ap (λ (c : Checked). matrices_check a b or_else c) (then_next space (Ok tt) (room_long work_length work h))
    ∙ then_next (symbol_check v t) (matrices_check a b or_else space or_else (Ok tt)) ((accepted v t).1 ok))

-- ---- one line after another

module _ (v : ℕ) (t p : List ℤ) (work : ℕ) where
  abbrev front : ℕ → List ℤ
  front i = coset_lines v t p work i

  lines_none : front 0 ≡ []
  unfolding coset_lines
  lines_none = refl

  lines_next : (i : ℕ) → front (suc i) ≡ front i ++ coset_line (coset_at v t p work i)
  unfolding coset_lines
  lines_next i = refl

  pub front_length : (i : ℕ) → length (front i) ≡ 2 * i
  front_length = rows_length 2 (λ i. coset_line (coset_at v t p work i)) (λ i. length_line (coset_at v t p work i)) front lines_none lines_next

  lines_more : (i : ℕ) (lines lines' : List ℤ) → lines' ≡ front i ++ drop (2 * i) lines
      → row_at 2 i (coset_line (coset_at v t p work i)) lines' ≡ front (suc i) ++ drop (2 * suc i) lines
  lines_more = rows_more 2 (λ i. coset_line (coset_at v t p work i)) (λ i. length_line (coset_at v t p work i)) front lines_none lines_next

pub pairs_none : (n : ℕ) (w : List ℕ) (p lines : List ℤ) → PairsShared n w p 0 lines lines
unfolding coset_lines
pairs_none n w p lines v t w₀ ok g = refl

pub pairs_more : (n : ℕ) (w : List ℕ) (p lines : List ℤ) {lines' : List ℤ} (i : ℕ) → PairsShared n w p i lines lines'
    → {part : List ℤ} → part ≡ take 8 (drop (8 * i) p)
    → {r : Decision} → PairShared n w (four part 0) (four part 4) r → {lines₁ : List ℤ} → lines₁ ≡ row_at 2 i (coset_line r) lines'
    → PairsShared n w p (i + 1) lines lines₁
pairs_more n w p lines {lines'} i f {part} cut {r} a {lines₁} e v t w₀ ok g =
    let is_A : four part 0 ≡ matrix_a p i = ap (λ (l : List ℤ). four l 0) cut ∙ sheet.part_A p (8 * i) in
    let is_B : four part 4 ≡ matrix_b p i = ap (λ (l : List ℤ). four l 4) cut ∙ sheet.part_B p (8 * i) in
    let long : work_length ≤ length w = g.prepared.long in
    let is : r ≡ coset_at v t p (length w) i =
    a v t w₀ ok g ∙ ap (λ (x : List ℤ). pair_shared v t x (four part 4)) is_A ∙ ap (pair_shared v t (matrix_a p i)) is_B
    ∙ single ok (length w) long (matrix_a p i) (matrix_b p i) in
    let more : suc i ≡ i + 1 = omega arith in
    e ∙ ap (λ (x : Decision). row_at 2 i (coset_line x) lines') is ∙ lines_more v t p (length w) i lines lines' (f v t w₀ ok g)
    ∙ ap (λ (k : ℕ). coset_lines v t p (length w) k ++ drop (2 * k) lines) more
