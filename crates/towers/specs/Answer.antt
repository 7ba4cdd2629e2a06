-- THE CALL `tower`: its refusals in their order, and what it leaves.
--
--   count_check n         11 with place 64 for a 65th entry
--   claim_steps n t w w'  the work space, which held w and then holds w', and then 26. An empty tower passes whatever
--                         space is lent, and leaves it as it was: the request says so without a condition. In every
--                         other tower the work space is tested, also where no entry names another
--   tower_call n t w      THE CALL: a 65th entry, ahead of everything; the symbols in listing order; 25; and then these
--   tower_checks n t      the refusals of a tower in a work space that is long enough
use Rattle.std.specs.Prelude.{List, [], ◌∷◌, ◌++◌, ℕ, zero, suc, ltb, length, ℤ}
use Rattle.call.specs.Refusal.{◌or_else◌, Checked}
use Rattle.call.specs.declared.refusal.Refusal.TheVariants.{TooShort}
use Rattle.call.specs.Space.{work_length}
use Rattle.call.specs.Call.{Lent, Step, Clears, Gives, asks, length_check, Contract}
use Rattle.symbol.specs.Check.{refuse}
use Rattle.towers.specs.Tower.{symbols_check, named_check, claims_check}
use Rattle.towers.specs.Meaning.{TowerSays}

abbrev pub count_check : ℕ → Checked
count_check n = refuse (ltb 64 n) (TooShort 64)

abbrev pub claim_steps : (n : ℕ) → List ℤ → (w w' : List ℕ) → List Step
claim_steps zero t w w' = Gives w w w' ∷ []
claim_steps (suc n) t w w' =
    asks (length_check work_length (length w)) ++ Clears w w' ∷ asks (claims_check (suc n) t)

abbrev pub tower_call : (n : ℕ) → List ℤ → Lent (List ℕ) → Contract
tower_call n t w = record {
  steps =
      asks (count_check n) ++ asks (symbols_check n t n) ++ asks (named_check n t)
      ++ claim_steps n t w.entry.now w.exit.now;
  count = 0;
  Says = TowerSays n t (length w.entry.now);
}

abbrev pub tower_checks : ℕ → List ℤ → Checked
tower_checks n t = count_check n or_else symbols_check n t n or_else named_check n t or_else claims_check n t
