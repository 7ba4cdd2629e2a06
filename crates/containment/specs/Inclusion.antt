-- Whether one symbol's subgroup contains another's.
--
--   Contains v t v' t'    both tables are symbols, the second's subgroup lies in the first's, and each of its
--                         generators is a word in the first's
--   ContainsNot           both are symbols, and neither is so
--   InclusionSays .. says     the answer by a number: 1 says that it contains it, 0 that it doesn't
--   contains_call         THE CALL: the first symbol's refusals, then the second's, then the work space
use Rattle.std.specs.Prelude.{◌≡◌, ◌⊎◌, List, ◌++◌, ℕ, ℤ}
use Rattle.call.specs.Call.{Lent, asks, work, Contract, bit}
use Rattle.symbol.specs.Check.{symbol_check}
use Rattle.symbol.specs.Symbol.{IsSymbol}
use Rattle.pairing.specs.Generator.{generators}
use Rattle.containment.specs.Group.{EachIn}
use Rattle.containment.specs.TwoSymbols.{Contained, contained}

-- ---- what the answer means

pub record Contains (v : ℕ) (t : List ℤ) (v' : ℕ) (t' : List ℤ) : Type 0 where
  pub one : IsSymbol v t
  pub other : IsSymbol v' t'
  pub group : Contained (generators v' t') (generators v t)
  pub words : EachIn (generators v' t') (generators v t)

pub record ContainsNot (v : ℕ) (t : List ℤ) (v' : ℕ) (t' : List ℤ) : Type 0 where
  pub one : IsSymbol v t
  pub other : IsSymbol v' t'
  pub group : Contained (generators v' t') (generators v t) → ⊥
  pub words : EachIn (generators v' t') (generators v t) → ⊥

abbrev pub InclusionSays : (v : ℕ) (t : List ℤ) (v' : ℕ) (t' : List ℤ) (says : ℕ) → Type 0
InclusionSays v t v' t' says = ((says ≡ 1) × Contains v t v' t') ⊎ ((says ≡ 0) × ContainsNot v t v' t')

-- ---- the call

abbrev pub contains_call : (v : ℕ) (t : List ℤ) (v' : ℕ) (t' : List ℤ) → Lent (List ℕ) → Contract
contains_call v t v' t' w = record {
  steps = asks (symbol_check v t) ++ asks (symbol_check v' t') ++ work w;
  count = bit (contained v' t' v t);
  Says = λ number place. number ≡ 0 → InclusionSays v t v' t' place;
}
