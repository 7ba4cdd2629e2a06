-- The call for many pairs: the lines in their table (`no_room`, `in_room`), and what a number 0 says (`cosets_say`).
-- Assumes nothing.
use Rattle.std.specs.Prelude.{Ok, Err}
use mathlib.Core.Path.{◌≡◌, refl, sym, ◌∙◌, ap}
use mathlib.Core.List.{List, [], ◌∷◌, ◌++◌}
use Prim.Native.Nat.{ℕ, ◌*◌, ◌/◌, ◌≤◌, ◌<◌}
use native.Mathlib.Omega.{arith}
use lib.ListN.{length, drop}
use lib.IntN.{ℤ}
use Rattle.call.specs.Space.{work_length}
use Rattle.call.specs.declared.refusal.Refusal.TheVariants.{TooShort}
use Rattle.call.specs.Call.{Step, Asks, Clears, Gives, length_check, at_front, Contract, number_of, place_of}
use Rattle.call.proofs.Laws.{Run, run_end, run_stop, run_pass, run_put, room_short, room_long, above_room, above_among, made_says}
use Rattle.symbol.specs.Check.{symbol_check}
use Rattle.symbol.proofs.Accepted.{among_refuse, check_among}
use Rattle.sheets.specs.Sheet.{matrix_a, matrix_b, pairs_in}
use Rattle.same_coset.specs.Pairs.{ragged, whole_pairs, whole_check, coset_lines, CosetsMean}
use Rattle.same_coset.proofs.Single.{means}
use Rattle.same_coset.proofs.Lines.{front_length}

module _ (v : ℕ) (t p : List ℤ) (work : ℕ) (lines : List ℤ) where
  abbrev n : ℕ
  n = pairs_in p

  abbrev table : List ℤ
  table = coset_lines v t p work n

  abbrev pub table_run : List ℤ → List Step
  table_run lines' = Asks (length_check n (length lines / 2)) ∷ Gives (at_front table lines) lines lines' ∷ []

  pub no_room : length lines / 2 < n → Run (table_run lines) (Err (TooShort n))
  no_room h =
      run_stop (TooShort n) (length_check n (length lines / 2)) (Gives (at_front table lines) lines lines ∷ []) (room_short n (length lines / 2) h) (refl, tt)

  pub in_room : (lines' : List ℤ) → n ≤ length lines / 2 → lines' ≡ table ++ drop (2 * n) lines → Run (table_run lines') (Ok tt)
  in_room lines' h e =
      run_pass (length_check n (length lines / 2)) (Gives (at_front table lines) lines lines' ∷ []) (room_long n (length lines / 2) h)
      (run_put (at_front table lines) lines lines' [] (e ∙ ap (λ (k : ℕ). table ++ drop k lines) (sym (front_length v t p work n))) run_end)

-- what a number 0 says
module _ (v : ℕ) (t p : List ℤ) (w w' : List ℕ) (lines lines' : List ℤ) where
  abbrev whole : Contract
  whole = record {
    steps =
        Asks (whole_check (length p)) ∷ Asks (symbol_check v t) ∷ Asks (length_check work_length (length w)) ∷ Clears w w' ∷ table_run v t p (length w) lines lines';
    count = pairs_in p;
    Says = λ number place. Unit {0};
  }

  pub cosets_say : number_of whole ≡ 0 → CosetsMean v t p w (place_of whole)
  cosets_say =
      made_says whole (CosetsMean v t p w) (
        above_among 11 11 (whole_check (length p)) (omega arith)
            (among_refuse 11 11 (ragged (length p)) (TooShort (whole_pairs (length p))) (omega arith) (omega arith)),
        (
          above_among 1 7 (symbol_check v t) (omega arith) (check_among v t),
          (above_room work_length (length w), (above_room (pairs_in p) (length lines / 2), tt)),
        ),
      )
      (λ e. record { pairs = refl; each = λ i h. means v t (matrix_a p i) (matrix_b p i) w })
