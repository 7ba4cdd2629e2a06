-- WHICH OF MANY PAIRS SHARE A COSET, against one symbol (docs/CONVENTIONS.md, 17). Pairs lie one after another, eight
-- entries each, as in a sheet (sheets/specs/Sheet.antt), and there may be any number of them.
--
--   ragged n                whether n entries are no number of whole pairs
--   whole_pairs n           the entries that the pair begun last would need
--   whole_check n           11 with that length for such a number
--   coset_line r            the line of an answer: 0 and 1 for yes, 0 and 0 for no, or the refusal and its place
--   coset_at v t p work i   THE ANSWER FOR THE PAIR i: that of the single call
--   coset_lines .. i        the lines of the first i pairs, one after another
--   lines_into .. lines     these in their table, counted in whole lines
--   same_cosets_steps       THE STEPS: the number of entries, then the checks of the symbol, then the work space, then
--                           the line table, in which it leaves the lines
--   CosetsMean              the place told is the number of pairs, and each line's answer means what that of a single
--                           call means
--   same_cosets_call        THE EXPORTED CALL: these steps, the number of pairs, and what a number 0 says
use Rattle.std.specs.Prelude.{Ok, Err}
use Rattle.std.specs.Prelude.{◌≡◌, Bool, true, false, not, List, [], ◌∷◌, ◌++◌, ℕ, zero, suc, ◌+◌, ◌*◌, ◌/◌, ◌%◌, ◌<◌}
use Rattle.std.specs.Prelude.{eqb, length, ℤ, pos}
use Rattle.call.specs.Refusal.{refusal_number, refusal_place, Checked, Decision}
use Rattle.call.specs.declared.refusal.Refusal.TheVariants.{TooShort}
use Rattle.call.specs.Call.{Lent, Step, asks, work, stores_rows, Contract}
use Rattle.symbol.specs.Check.{refuse, symbol_check}
use Rattle.sheets.specs.Sheet.{matrix_a, matrix_b, pairs_in}
use Rattle.same_coset.specs.Answer.{same_coset_of, CosetMeans}

abbrev pub ragged : ℕ → Bool
ragged n = not (eqb (n % 8) 0)

abbrev pub whole_pairs : ℕ → ℕ
whole_pairs n = 8 * (n / 8 + 1)

abbrev pub whole_check : ℕ → Checked
whole_check n = refuse (ragged n) (TooShort (whole_pairs n))

abbrev pub coset_line : Decision → List ℤ
coset_line (Ok true) = pos 0 ∷ pos 1 ∷ []
coset_line (Ok false) = pos 0 ∷ pos 0 ∷ []
coset_line (Err f) = pos (refusal_number f) ∷ pos (refusal_place f) ∷ []

abbrev pub coset_at : (v : ℕ) (t p : List ℤ) (work : ℕ) → ℕ → Decision
coset_at v t p work i = same_coset_of v t (matrix_a p i) (matrix_b p i) work

unfoldable pub coset_lines : (v : ℕ) (t p : List ℤ) (work : ℕ) → ℕ → List ℤ
coset_lines v t p work zero = []
coset_lines v t p work (suc i) = coset_lines v t p work i ++ coset_line (coset_at v t p work i)

-- ---- the steps

abbrev pub lines_into : (v : ℕ) (t p : List ℤ) (work : ℕ) → Lent (List ℤ) → List Step
lines_into v t p work lines = stores_rows 2 (pairs_in p) (coset_lines v t p work (pairs_in p)) lines

abbrev pub same_cosets_steps : (v : ℕ) (t p : List ℤ) → Lent (List ℕ) → Lent (List ℤ) → List Step
same_cosets_steps v t p w lines =
    asks (whole_check (length p)) ++ asks (symbol_check v t) ++ work w ++ lines_into v t p (length w.entry.now) lines

pub record CosetsMean (v : ℕ) (t p : List ℤ) (w : List ℕ) (place : ℕ) : Type 0 where
  pub pairs : place ≡ pairs_in p
  pub each : (i : ℕ) → i < place → CosetMeans v t (matrix_a p i) (matrix_b p i) w (coset_at v t p (length w) i)

abbrev pub same_cosets_call : (v : ℕ) (t p : List ℤ) → Lent (List ℕ) → Lent (List ℤ) → Contract
same_cosets_call v t p w lines = record {
  steps = same_cosets_steps v t p w lines;
  count = pairs_in p;
  Says = λ number place. number ≡ 0 → CosetsMean v t p w.entry.now place;
}
