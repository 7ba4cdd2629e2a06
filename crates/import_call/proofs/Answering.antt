-- The answers of the calls from what their parts answer: a check and then the work space (`check_refused`, `work_short`, `work_long`), and back from the answer
-- to that of the steps behind them (`work_back`); the length alone (`length_refused`, `length_made`).
-- Assumes nothing.
use Rattle.std.specs.Prelude.{Ok, Err}
use mathlib.Core.Path.{◌≡◌, refl, ap, subst}
use mathlib.Core.List.{List, [], ◌∷◌}
use Prim.Native.Nat.{ℕ, ◌≤◌, ◌<◌}
use lib.ListN.{length}
use Rattle.call.specs.Refusal.{Checked, Filled}
use Rattle.call.specs.declared.refusal.Refusal.TheVariants.{TooShort}
use Rattle.call.specs.declared.refusal.Refusal.{Refusal}
use Rattle.call.specs.Space.{work_length, zeros}
use Rattle.call.specs.Call.{Step, Asks, Clears, length_check}
use Rattle.call.specs.Inner.Fills.{Fills, made_if}
use Rattle.call.proofs.Laws.{Untouched, run_end, run_stop, run_pass, run_work, short_work, room_long, fills_as, ran}
use Rattle.permutations.specs.Check.{pair_check}
use Rattle.import_call.specs.Import.{needed_length}

-- ---- a check, then the work space, then the steps l

-- a check that passes says nothing of the steps behind it
pub past_check : {A : Type 0} {by : Checked → A} {a : A} {c : Checked} {l : List Step} → c ≡ Ok tt → Fills (Asks c ∷ l) by a → Fills l by a
past_check {by} {a} {l} e g =
    let h = subst (λ (x : Checked). Fills (Asks x ∷ l) by a) e g in
    record { answer = h.answer; leaves = h.leaves }

module _ (c : Checked) (w : List ℕ) (m : ℕ) where
  abbrev pub admitted : (w' : List ℕ) → List Step → List Step
  admitted w' l = Asks c ∷ Asks (length_check work_length (length w)) ∷ Clears w w' ∷ l

  pub check_refused : (f : Refusal) (l : List Step) → c ≡ Err f → Untouched l → Fills (admitted w l) (made_if m) (Err f)
  check_refused f l e u = fills_as (run_stop f c (Asks (length_check work_length (length w)) ∷ Clears w w ∷ l) e (refl, u)) refl

  module _ (e : c ≡ Ok tt) where
    pub work_short : (l : List Step) → length w < work_length → Untouched l → Fills (admitted w l) (made_if m) (Err (TooShort work_length))
    work_short l h u = fills_as (run_pass c (Asks (length_check work_length (length w)) ∷ Clears w w ∷ l) e (short_work w l h u)) refl

    pub work_long : (l : List Step) → work_length ≤ length w → {a : Filled} {w' : List ℕ} → w' ≡ zeros (length w) → Fills l (made_if m) a
        → Fills (admitted w' l) (made_if m) a
    work_long l h {a} {w'} z g = fills_as (run_pass c (Asks (length_check work_length (length w)) ∷ Clears w w' ∷ l) e (run_work w l w' h z (ran g))) g.answer

    pub work_back : (l : List Step) → work_length ≤ length w → {a : Filled} {w' : List ℕ} → Fills (admitted w' l) (made_if m) a
        → Fills l (made_if m) a × (w' ≡ zeros (length w))
    work_back l h g =
        let k = past_check (room_long work_length (length w) h) (past_check e g) in
        (record { answer = k.answer; leaves = k.leaves.1 }, k.leaves.0)

-- ---- the length alone

module _ (s r : List ℕ) where
  pub length_refused : (f : Refusal) → pair_check s r ≡ Err f → Fills (Asks (pair_check s r) ∷ []) (made_if (needed_length r)) (Err f)
  length_refused f e = fills_as (run_stop f (pair_check s r) [] e tt) refl

  pub length_made : (n : ℕ) → pair_check s r ≡ Ok tt → n ≡ needed_length r → Fills (Asks (pair_check s r) ∷ []) (made_if (needed_length r)) (Ok n)
  length_made n e q = fills_as (run_pass (pair_check s r) [] e run_end) (ap Ok q)
