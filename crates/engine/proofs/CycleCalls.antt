-- Why number and place of `farey_read_cycles` mean what they do (`read_says`), why there is one answer for each text (`one_answer`), and why reading an export
-- returns the tables (`read_back`). Assumes nothing.
use mathlib.Core.Path.{sym, subst, ◌∙◌}
use mathlib.Core.List.{List}
use Prim.Native.Nat.{ℕ}
use native.Mathlib.Nat.{le_refl}
use lib.ListN.{length}
use Rattle.call.specs.Refusal.{answer_number, answer_place}
use Rattle.call.specs.Call.{verdict, if_accepted, Leaves}
use Rattle.permutations.specs.Check.{Passport}
use Rattle.cycle_notation.specs.Verdict.{Read}
use Rattle.cycle_reading.specs.Reading.{table_of_s, table_of_r, read_s, GoodPair, ReadCyclesMean}
use Rattle.cycle_reading.proofs.Filling.{read_run}
use Rattle.cycle_reading.proofs.Answered.{read_means, Returned, read_returns, means_only}
use Rattle.cycle_writing.specs.Cycles.{cycles_of}
use Rattle.cycle_writing.specs.Export.{Exported}
use Rattle.engine.specs.CycleCalls.{OneAnswer, ExportReadBack}

pub one_answer : OneAnswer
one_answer t s r number place m =
    means_only t s.entry.now r.entry.now s.exit.now r.exit.now number place m

module _ (t s r s' r' : List ℕ) (l : Leaves (read_run t s r s' r')) where
  abbrev number : ℕ
  number = answer_number (verdict (read_run t s r s' r'))

  abbrev place : ℕ
  place = if_accepted (verdict (read_run t s r s' r')) (length (read_s t)) (answer_place (verdict (read_run t s r s' r')))

  pub read_says : ReadCyclesMean t (length s) (length r) s' r' number place
  read_says = read_means t s r s' r' l

module _ {s r t : List ℕ} (x : Exported s r t) where
  abbrev q : Read
  q = record { index = length s; of_s = cycles_of s; of_r = cycles_of r }

  good : GoodPair t q
  good = record {
    right = x.right;
    passport = subst (λ (l : List ℕ). Passport l (table_of_r q)) (sym x.S_table) (subst (Passport s) (sym x.R_table) x.passport);
  }

  pub read_back : ExportReadBack s r t
  read_back = record {
    answer = λ a b l m. (read_returns t a.entry.now b.entry.now a.exit.now b.exit.now q good l m).answer;
    S_is = same.S_is ∙ x.S_table;
    R_is = same.R_is ∙ x.R_table;
  }
    where
      same : Returned t s s s s q
      same = read_returns t s s s s q good (le_refl (length s)) (le_refl (length s))
