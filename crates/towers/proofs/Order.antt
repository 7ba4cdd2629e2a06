-- The ways out of `tower`, in order: a 65th entry (`too_many_lem`), a symbol that is refused (`bad_symbol`), a name (`bad_name`); and behind these an empty tower
-- (`is_empty`), a short work space (`is_short`), the claims (`by_claims`).
-- Assumes nothing.
use Rattle.std.specs.Prelude.{Ok, Err}
use mathlib.Core.Path.{◌≡◌, refl, sym, subst, ◌∙◌}
use mathlib.Core.List.{List, [], ◌∷◌}
use Prim.Native.Nat.{ℕ, zero, suc, ◌≤◌, ◌<◌}
use native.Mathlib.Omega.{arith}
use lib.ListN.{length}
use lib.Dec.{ltb}
use lib.IntN.{ℤ}
use borrow.Author.Tests.{lt-ltb, le-ltb}
use Rattle.basics.specs.Count.{first}
use Rattle.call.specs.Refusal.{◌or_else◌, Checked}
use Rattle.call.specs.declared.refusal.Refusal.TheVariants.{TooShort, NotListedBefore}
use Rattle.call.specs.declared.refusal.Refusal.{Refusal}
use Rattle.call.specs.Space.{work_length, zeros}
use Rattle.call.specs.Call.{Step, Asks, Clears, length_check}
use Rattle.call.specs.Inner.Fills.{Fills}
use Rattle.call.proofs.Laws.{Run, Untouched, run_end, run_stop, run_pass, run_put, run_work, room_short, fills_as}
use Rattle.symbol.proofs.Order.{refuse_yes, refuse_no, refuse_at_lem, accept_at}
use Rattle.towers.specs.Tower.{symbols_check, unlisted, named_check, claims_check}
use Rattle.towers.specs.Answer.{count_check, claim_steps}

-- ---- the work space and the claims

untouched : (n : ℕ) (t : List ℤ) (w w' : List ℕ) → w' ≡ w → Untouched (claim_steps n t w w')
untouched zero t w w' e = (e, tt)
untouched (suc n) t w w' e = (e, tt)

run_one : (c : Checked) {r : Checked} → r ≡ c → Run (Asks c ∷ []) r
run_one c e = record { is = go c ∙ sym e; leaves = tt }
  where
    go : (c : Checked) → (c or_else (Ok tt)) ≡ c
    go (Ok tt) = refl
    go (Err f) = refl

empty_run : (n : ℕ) (t : List ℤ) (w w' : List ℕ) → n ≡ 0 → w' ≡ w → Run (claim_steps n t w w') (Ok tt)
empty_run zero t w w' z e = run_put w w w' [] e run_end
empty_run (suc n) t w w' z e = absurd (omega (arith, z))

short_run : (n : ℕ) (t : List ℤ) (w w' : List ℕ) → (n ≡ 0 → ⊥) → length w < work_length → w' ≡ w → Run (claim_steps n t w w') (Err (TooShort work_length))
short_run zero t w w' z h e = absurd (z refl)
short_run (suc n) t w w' z h e =
    run_stop (TooShort work_length) (length_check work_length (length w)) (Clears w w' ∷ Asks (claims_check (suc n) t) ∷ [])
    (room_short work_length (length w) h) (e, tt)

claims_run : (n : ℕ) (t : List ℤ) (w w' : List ℕ) → (n ≡ 0 → ⊥) → work_length ≤ length w → {r : Checked} → r ≡ claims_check n t → w' ≡ zeros (length w)
    → Run (claim_steps n t w w') r
claims_run zero t w w' z h p e = absurd (z refl)
claims_run (suc n) t w w' z h p e = run_work w (Asks (claims_check (suc n) t) ∷ []) w' h e (run_one (claims_check (suc n) t) p)

-- ---- the whole

module _ (n : ℕ) (t : List ℤ) (w w' : List ℕ) where
  abbrev named : List Step
  named = Asks (named_check n t) ∷ claim_steps n t w w'

  abbrev symbols : List Step
  symbols = Asks (symbols_check n t n) ∷ named

  abbrev Said : Checked → Type 0
  Said r = Fills (Asks (count_check n) ∷ symbols) (λ (c : Checked). c) r

  pub too_many_lem : 64 < n → w' ≡ w → Said (Err (TooShort 64))
  too_many_lem h e =
      fills_as {by = λ (c : Checked). c}
      (run_stop (TooShort 64) (count_check n) symbols (refuse_yes (ltb 64 n) (TooShort 64) (lt-ltb 64 n h)) (untouched n t w w' e)) refl

  pub told : {r r' : Checked} → r ≡ r' → Said r' → Said r
  told e g = subst Said (sym e) g

  few : n ≤ 64 → {d : Checked} → Run symbols d → Said d
  few h k = fills_as {by = λ (c : Checked). c} (run_pass (count_check n) symbols (refuse_no (ltb 64 n) (TooShort 64) (le-ltb 64 n h)) k) refl

  pub bad_symbol : n ≤ 64 → (f : Refusal) → symbols_check n t n ≡ Err f → w' ≡ w → Said (Err f)
  bad_symbol h f s e = few h (run_stop f (symbols_check n t n) named s (untouched n t w w' e))

  pub bad_name : n ≤ 64 → symbols_check n t n ≡ Ok tt → (k : ℕ) → k ≡ first (unlisted t) n → k < n → w' ≡ w
      → Said (Err (NotListedBefore k))
  bad_name h s k is l e =
      few h (run_pass (symbols_check n t n) named s
      (run_stop (NotListedBefore k) (named_check n t) (claim_steps n t w w') (refuse_at_lem (unlisted t) n k NotListedBefore is l) (untouched n t w w' e)))

  -- all entries are symbols, and all names are listed before
  module _ (h : n ≤ 64) (s : symbols_check n t n ≡ Ok tt) (k : ℕ) (is : k ≡ first (unlisted t) n) (l : n ≤ k) where
    good : {d : Checked} → Run (claim_steps n t w w') d → Said d
    good r =
        few h (run_pass (symbols_check n t n) named s (run_pass (named_check n t) (claim_steps n t w w') (accept_at (unlisted t) n k NotListedBefore is l) r))

    pub is_empty : n ≡ 0 → w' ≡ w → Said (Ok tt)
    is_empty z e = good (empty_run n t w w' z e)

    pub is_short : (n ≡ 0 → ⊥) → length w < work_length → w' ≡ w → Said (Err (TooShort work_length))
    is_short z b e = good (short_run n t w w' z b e)

    pub by_claims : (n ≡ 0 → ⊥) → work_length ≤ length w → {r : Checked} → r ≡ claims_check n t → w' ≡ zeros (length w) → Said r
    by_claims z b p e = good (claims_run n t w w' z b p e)
