-- Sameness of two symbols: whether they generate the same subgroup.
--
--   Same v t v' t'       both tables are symbols, they generate the same subgroup, and every generator of each is a
--                        word in the other's
--   Different v t v' t'  both are symbols, and neither is so
--   SameSays .. says     the answer by a number: 1 says that they are the same, 0 that they are different
--   same_call            THE CALL: the first symbol's refusals, then the second's, then the work space
use Rattle.std.specs.Prelude.{◌≡◌, ◌⊎◌, List, ◌++◌, ℕ, ℤ}
use Rattle.call.specs.Call.{Lent, asks, work, Contract, bit}
use Rattle.symbol.specs.Check.{symbol_check}
use Rattle.symbol.specs.Symbol.{IsSymbol}
use Rattle.pairing.specs.Generator.{generators}
use Rattle.containment.specs.Group.{SameGroup, EachOther, same_tables}

-- ---- what the answer means

pub record Same (v : ℕ) (t : List ℤ) (v' : ℕ) (t' : List ℤ) : Type 0 where
  pub one : IsSymbol v t
  pub other : IsSymbol v' t'
  pub group : SameGroup (generators v t) (generators v' t')
  pub words : EachOther (generators v t) (generators v' t')

pub record Different (v : ℕ) (t : List ℤ) (v' : ℕ) (t' : List ℤ) : Type 0 where
  pub one : IsSymbol v t
  pub other : IsSymbol v' t'
  pub group : SameGroup (generators v t) (generators v' t') → ⊥
  pub words : EachOther (generators v t) (generators v' t') → ⊥

abbrev pub SameSays : (v : ℕ) (t : List ℤ) (v' : ℕ) (t' : List ℤ) (says : ℕ) → Type 0
SameSays v t v' t' says = ((says ≡ 1) × Same v t v' t') ⊎ ((says ≡ 0) × Different v t v' t')

-- ---- the call

abbrev pub same_call : (v : ℕ) (t : List ℤ) (v' : ℕ) (t' : List ℤ) → Lent (List ℕ) → Contract
same_call v t v' t' w = record {
  steps = asks (symbol_check v t) ++ asks (symbol_check v' t') ++ work w;
  count = bit (same_tables v t v' t');
  Says = λ number place. number ≡ 0 → SameSays v t v' t' place;
}
