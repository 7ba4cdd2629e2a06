-- The whole sheet: the lines and the words in their spaces (`no_room`, `in_room`), and what a number 0 says (`sheet_says`).
-- Assumes nothing.
use Rattle.std.specs.Prelude.{Ok, Err}
use mathlib.Core.Path.{◌≡◌, refl, sym, ◌∙◌, ap, subst}
use mathlib.Core.List.{List, [], ◌∷◌, ◌++◌}
use Prim.Native.Nat.{ℕ, ◌*◌, ◌/◌, ◌≤◌, ◌<◌}
use native.Mathlib.Omega.{arith}
use lib.ListN.{length, drop}
use lib.IntN.{ℤ}
use Rattle.call.specs.Space.{work_length}
use Rattle.call.specs.Refusal.{Checked}
use Rattle.call.specs.declared.refusal.Refusal.TheVariants.{TooShort}
use Rattle.call.specs.Call.{Step, Asks, Clears, Gives, length_check, at_front, Leaves, if_accepted, Contract, number_of, place_of}
use Rattle.call.proofs.Laws.{Run, run_end, run_stop, run_pass, run_put, room_short, room_long, above_room, above_among, made_says}
use Rattle.symbol.specs.Check.{symbol_check}
use Rattle.symbol.proofs.Accepted.{among_refuse, check_among}
use Rattle.sheets.specs.Sheet.{pairs_in, bad_count, space_at, lines_to, entries_check}
use Rattle.sheets.specs.Meaning.{SheetMeans}
use Rattle.sheets.proofs.Spaces.{line_means}
use Rattle.sheets.proofs.Says.{line_says}
use Rattle.sheets.proofs.Lines.{length_lines}

module _ (v : ℕ) (t p : List ℤ) (work : ℕ) (lines out : List ℤ) where
  abbrev n : ℕ
  n = pairs_in p

  abbrev table : List ℤ
  table = lines_to v t p work out n

  abbrev last : List ℤ
  last = (space_at v t p work out n).letters

  -- ---- the lines and the words in their spaces

  abbrev pub line_run : (lines' out' : List ℤ) → List Step
  line_run lines' out' = Asks (length_check n (length lines / 4)) ∷ Gives (at_front table lines) lines lines' ∷ Gives last out out' ∷ []

  pub no_room : length lines / 4 < n → Run (line_run lines out) (Err (TooShort n))
  no_room h =
      run_stop (TooShort n) (length_check n (length lines / 4)) (Gives (at_front table lines) lines lines ∷ Gives last out out ∷ [])
      (room_short n (length lines / 4) h) (refl, (refl, tt))

  pub in_room : (lines' out' : List ℤ) → n ≤ length lines / 4 → lines' ≡ table ++ drop (4 * n) lines → out' ≡ last → Run (line_run lines' out') (Ok tt)
  in_room lines' out' h e f =
      run_pass (length_check n (length lines / 4)) (Gives (at_front table lines) lines lines' ∷ Gives last out out' ∷ []) (room_long n (length lines / 4) h)
      (run_put (at_front table lines) lines lines' (Gives last out out' ∷ [])
      (e ∙ ap (λ (k : ℕ). table ++ drop k lines) (sym (length_lines v t p work out n)))
      (run_put last out out' [] f run_end))

-- ---- what a number 0 says, by what is left

module _ (v : ℕ) (t p : List ℤ) (w w' : List ℕ) (lines lines' out out' : List ℤ) where
  abbrev pub sheet_run : List Step
  sheet_run =
      Asks (entries_check (length p)) ∷ Asks (symbol_check v t) ∷ Asks (length_check work_length (length w)) ∷ Clears w w'
      ∷ line_run v t p (length w) lines out lines' out'

  abbrev whole : Contract
  whole = record { steps = sheet_run; count = pairs_in p; Says = λ number place. Unit {0} }

  means : lines' ≡ at_front (table v t p (length w) lines out) lines → out' ≡ last v t p (length w) lines out → SheetMeans v t p w out lines' out' (pairs_in p)
  means e f =
      let rest = drop (length (table v t p (length w) lines out)) lines in
      subst (λ (l : List ℤ). SheetMeans v t p w out l out' (pairs_in p)) (sym e)
      (subst (λ (o : List ℤ). SheetMeans v t p w out (table v t p (length w) lines out ++ rest) o (pairs_in p)) (sym f) (record {
        pairs = refl;
        lines = λ i h. line_means v t p w out (pairs_in p) i h;
        says = λ i h. line_says v t p w out (pairs_in p) rest i h;
      }))

  pub sheet_says : Leaves sheet_run → number_of whole ≡ 0 → SheetMeans v t p w out lines' out' (place_of whole)
  sheet_says k =
      made_says whole (SheetMeans v t p w out lines' out') (
        above_among 11 11 (entries_check (length p)) (omega arith) (among_refuse 11 11 (bad_count (length p)) (TooShort 2048) (omega arith) (omega arith)),
        (
          above_among 1 7 (symbol_check v t) (omega arith) (check_among v t),
          (above_room work_length (length w), (above_room (pairs_in p) (length lines / 4), tt)),
        ),
      )
      (λ e. means (k.1.0 ∙ ap (λ (c : Checked). if_accepted c (at_front (table v t p (length w) lines out) lines) lines) e)
      (k.1.1.0 ∙ ap (λ (c : Checked). if_accepted c (last v t p (length w) lines out) out) e))
