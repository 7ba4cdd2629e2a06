-- The answer of the sheet, printed.
--     Called, called-as           what the call of `sheet` gives and leaves, and the same for its arguments in other words
--     refused_printed             the bytes of a sheet that is refused
--     made-room, made-printed     the table of one that is made: there is room for its lines, and they are the bytes
--     by_reading_lem              the bytes for a text, by what it gives
--     print_means                 what the bytes mean
-- Assumes nothing.
use Rattle.std.specs.Prelude.{Ok, Err}
use mathlib.Core.Path.{◌≡◌, refl, sym, ap, ◌∙◌, subst}
use mathlib.Core.Bool.{Bool}
use mathlib.Core.List.{List, ◌++◌}
use Prim.Native.Nat.{ℕ, ◌+◌, ◌-◌, ◌*◌, ◌/◌, ◌≤◌}
use native.Mathlib.Omega.{arith}
use lib.Dec.{ltb}
use lib.IntN.{ℤ}
use lib.ListN.{length, take, drop, length-drop, replicate, length-replicate}
use lib.Seq.{take-length}
use borrow.Author.Tests.{ltb-false}
use Rattle.call.specs.Refusal.{◌or_else◌, Checked, Filled}
use Rattle.call.specs.declared.refusal.Refusal.TheVariants.{TooShort}
use Rattle.call.specs.declared.refusal.Refusal.{Refusal}
use Rattle.call.proofs.Apart.{refused_made}
use Rattle.call.proofs.Answers.{both_pass}
use Rattle.call.specs.Space.{work_length}
use Rattle.call.specs.Call.{at_front, if_accepted, length_check, verdict}
use Rattle.call.specs.Inner.Fills.{Fills, made_if}
use Rattle.symbol.specs.Check.{symbol_check}
use Rattle.symbol.proofs.Accepted.{passes}
use Rattle.text.specs.Piece.{pieces, numbers}
use Rattle.text.specs.Line.{refusal_line}
use Rattle.text.specs.Reading.{count_in, by_reading}
use Rattle.sheets.specs.Sheet.{pairs_in, space_at, lines_to, entries_check, sheet_checks}
use Rattle.sheets.proofs.Spaces.{line_means}
use Rattle.sheets.proofs.Whole.{sheet_run}
use Rattle.query_text.specs.Printed.{sheet_reading, table_of, pairs_of, unused, pair_lines, sheet_verdict, lines_if, printed, sheet_bytes}
use Rattle.query_text.specs.Printed.{SheetPrintMeans}
use Rattle.query_text.specs.Inner.SheetTable.{printed_rows, SheetSpaces, LinesRoom}
use Rattle.query_text.proofs.SheetFresh.{print_same}
use Rattle.query_text.proofs.SheetTable.{lines_room, lines_printed}

-- ---- the call of `sheet`

pub record Called (w : List ℕ) (lines letters : List ℤ) (r : Filled) (w' : List ℕ) (lines' letters' : List ℤ) (v : ℕ) (t p : List ℤ) : Type 0 where
  pub fills : Fills (sheet_run v t p w w' lines lines' letters letters') (made_if (pairs_in p)) r

-- the symbol's part of the numbers, and that of the pairs, as the code lends them
pub symbol_part : (ns : List ℤ) (v k : ℕ) → v ≡ count_in ns → k ≡ 3 * v + 2 → take (k - 1) (drop 1 ns) ≡ table_of ns
symbol_part ns v k e f = let g : k - 1 ≡ 3 * count_in ns + 1 = omega (arith, e, f) in ap (λ (n : ℕ). take n (drop 1 ns)) g

pub pairs_part : (ns : List ℤ) (v k : ℕ) → v ≡ count_in ns → k ≡ 3 * v + 2 → take (length ns - k) (drop k ns) ≡ pairs_of ns
pairs_part ns v k e f =
    let g : k ≡ 3 * count_in ns + 2 = omega (arith, e, f) in
    ap (λ (n : ℕ). take n (drop k ns)) (sym (length-drop k ns)) ∙ take-length (drop k ns) ∙ ap (λ (n : ℕ). drop n ns) g

pub called_as : {w : List ℕ} {lines letters : List ℤ} {r : Filled} {w' : List ℕ} {lines' letters' : List ℤ} {v v' : ℕ} {t t' p p' : List ℤ}
    → v ≡ v' → t ≡ t' → p ≡ p' → Called w lines letters r w' lines' letters' v t p → Called w lines letters r w' lines' letters' v' t' p'
called_as {w} {lines} {letters} {r} {w'} {lines'} {letters'} {v} {v'} {t} {t'} {p} {p'} e f g c =
    subst (Called w lines letters r w' lines' letters' v' t') g
    (subst (λ (x : List ℤ). Called w lines letters r w' lines' letters' v' x p) f (subst (λ (n : ℕ). Called w lines letters r w' lines' letters' n t p) e c))

-- an answer by a verdict: what was made, or the refusal
made_by_lem : (n k : ℕ) (c : Checked) → made_if n c ≡ Ok k → (c ≡ Ok tt) × (k ≡ n)
made_by_lem n k (Ok tt) e = (refl, (let z : n ≡ k = cc in sym z))
made_by_lem n k (Err f) e = refused_made e

refused_by : (n : ℕ) (f : Refusal) (c : Checked) → made_if n c ≡ Err f → c ≡ Err f
refused_by n f (Ok tt) e = refused_made (sym e)
refused_by n f (Err g) e = let z : g ≡ f = cc in ap Err z

-- a sheet that isn't refused has no more lines than its table
few_lines : (v : ℕ) (t p : List ℤ) (work lines : ℕ) → verdict (sheet_checks v t p work lines) ≡ Ok tt → pairs_in p ≤ lines / 4
few_lines v t p work lines e =
    let table = length_check (pairs_in p) (lines / 4) in
    let q = both_pass (entries_check (length p)) (symbol_check v t or_else length_check work_length work or_else table or_else (Ok tt)) e in
    let r = both_pass (symbol_check v t) (length_check work_length work or_else table or_else (Ok tt)) q.1 in
    let k = both_pass (length_check work_length work) (table or_else (Ok tt)) r.1 in
    let l = both_pass table (Ok tt) k.1 in
    ltb-false (lines / 4) (pairs_in p) (passes (ltb (lines / 4) (pairs_in p)) (TooShort (pairs_in p)) l.0)

-- ---- by the numbers of a text

module _ (ns : List ℤ) {w : List ℕ} {lines letters : List ℤ} {out : List ℕ}
    (s : SheetSpaces w lines letters out) {r : Filled} {w' : List ℕ} {lines' letters' : List ℤ}
    (c : Called w lines letters r w' lines' letters' (count_in ns) (table_of ns) (pairs_of ns)) where
  abbrev v : ℕ
  v = count_in ns

  abbrev t : List ℤ
  t = table_of ns

  abbrev p : List ℤ
  p = pairs_of ns

  abbrev n : ℕ
  n = pairs_in p

  abbrev all : Checked
  all = verdict (sheet_checks v t p (length w) (length lines))

  in_spaces : all ≡ sheet_verdict ns
  in_spaces =
      ap (λ (i : ℕ). verdict (sheet_checks v t p i (length lines))) s.work ∙ ap (λ (i : ℕ). verdict (sheet_checks v t p work_length i)) s.table

  pub refused_printed : (f : Refusal) → r ≡ Err f → refusal_line f ≡ printed ns
  unfolding printed
  refused_printed f e =
      ap (λ (x : Checked). lines_if x (pair_lines v t p unused n)) (sym (refused_by n f all (sym c.fills.answer ∙ e)) ∙ in_spaces)

  module _ (k : ℕ) (e : r ≡ Ok k) where
    made : (all ≡ Ok tt) × (k ≡ n)
    made = made_by_lem n k all (sym c.fills.answer ∙ e)

    few : n ≤ 256
    few = omega (arith, few_lines v t p (length w) (length lines) made.0, s.table)

    abbrev table : List ℤ
    table = lines_to v t p (length w) letters n

    abbrev rest : List ℤ
    rest = drop (length table) lines

    table_is : lines' ≡ table ++ rest
    table_is = c.fills.leaves.1.0 ∙ ap (λ (x : Checked). if_accepted x (at_front table lines) lines) made.0

    letters_are : letters' ≡ (space_at v t p (length w) letters n).letters
    letters_are = c.fills.leaves.1.1.0 ∙ ap (λ (x : Checked). if_accepted x (space_at v t p (length w) letters n).letters letters) made.0

    pub made_room : length lines' ≡ length lines → LinesRoom lines' letters' k out
    made_room same =
        let x = lines_room v t p w letters n rest out few (omega (arith, few, ap length table_is, same, s.table)) s.lent s.out_long in
        let y = subst (λ (l : List ℤ). LinesRoom l (space_at v t p (length w) letters n).letters n out) (sym table_is) x in
        let z = subst (λ (l : List ℤ). LinesRoom lines' l n out) (sym letters_are) y in
        subst (λ (m : ℕ). LinesRoom lines' letters' m out) (sym made.1) z

    pub made_printed : printed_rows lines' letters' k ≡ printed ns
    unfolding printed
    made_printed =
        ap (λ (l : List ℤ). printed_rows l letters' k) table_is
        ∙ ap (λ (l : List ℤ). printed_rows (table ++ rest) l k) letters_are
        ∙ ap (printed_rows (table ++ rest) (space_at v t p (length w) letters n).letters) made.1
        ∙ lines_printed v t p w letters n rest s.work n (omega arith)
        ∙ print_same v t p letters w s.lent s.work n
        ∙ ap (λ (x : Checked). lines_if x (pair_lines v t p unused n)) (sym made.0 ∙ in_spaces)

-- ---- by what a text gives

pub by_reading_lem : (longer : Bool) (t : List ℕ) (r : Filled) → r ≡ sheet_reading longer t
    → by_reading printed refusal_line r (numbers (pieces t)) ≡ sheet_bytes longer t
unfolding sheet_bytes
by_reading_lem longer t r e = ap (λ (x : Filled). by_reading printed refusal_line x (numbers (pieces t))) e

-- ---- what it means

pub print_means : (longer : Bool) (text : List ℕ) {bytes : List ℕ} → bytes ≡ sheet_bytes longer text → SheetPrintMeans longer text bytes
unfolding sheet_bytes printed
print_means longer text {bytes} b k e = record {
  answer = λ letters lent.
      b ∙ ap (λ (x : Filled). by_reading printed refusal_line x all) e
      ∙ ap (lines_if (sheet_verdict ns))
      (sym (print_same (count_in ns) (table_of ns) (pairs_of ns) letters (replicate {A = ℕ} work_length 0) lent (length-replicate {A = ℕ} work_length 0)
      (pairs_in (pairs_of ns))));
  claims = λ f w letters work lent i h. line_means (count_in ns) (table_of ns) (pairs_of ns) w letters (pairs_in (pairs_of ns)) i h;
}
  where
    all : List ℤ
    all = numbers (pieces text)

    ns : List ℤ
    ns = take k all
