-- WHAT THE RULE GIVES, for every pair of permutations and under every order: `Precisely σ κ v t`, of the symbol of v
-- vertices in the table t. The proof is `rule_precisely`, in proofs/Theorem.antt; the rule and the wide rule are two
-- orders of it. How many vertices there are, where every point is reached from 0, is in import_call/specs/Import.antt.
--
--   Precisely σ κ v t      the promise, in these parts:
--     symbol               the table is a symbol, as the checks 1 to 7 have it
--     group                a matrix of determinant 1 is, up to sign, a product of the symbol's generators and their
--                          inverses exactly when it fixes point 0
--   RuleEnds order         the rule ends: the n splits that it is given are enough, for more change nothing
--                          (`rule_ends`, in proofs/Ends.antt)
--   LongestFirst           the side that the wide rule splits came before all other open sides (`longest_first`, in
--                          proofs/Order.antt)
use Rattle.std.specs.Prelude.{◌≡◌, ◌↔◌, Bool, true, false, List, ℕ, ◌≤◌, ℤ, pos, length, get_or}
use Rattle.matrix.specs.Matrix.{Mat, det}
use Rattle.matrix.specs.Action.{at}
use Rattle.symbol.specs.Symbol.{IsSymbol}
use Rattle.pairing.specs.Generator.{generators}
use Rattle.pairing.specs.Subgroup.{InH}
use Rattle.permutations.specs.Pair.{Permuting}
use Rattle.import_rule.specs.Fixed.{by_q}
use Rattle.import_rule.specs.Order.{Order, longest_open, this, chosen_by}
use Rattle.import_rule.specs.Symbol.{rule_by}

pub record Precisely (σ κ : ℕ → ℕ) (v : ℕ) (t : List ℤ) : Type 0 where
  pub symbol : IsSymbol v t
  pub group : (m : Mat) → det m ≡ pos 1 → InH (generators v t) m ↔ (at σ κ 0 m ≡ 0)

abbrev pub RuleEnds : Order → Type 0
RuleEnds order = (σ ρ : ℕ → ℕ) (n : ℕ) → Permuting σ ρ n → (f : ℕ) → n ≤ f → rule_by order σ (by_q σ ρ) f
    ≡ rule_by order σ (by_q σ ρ) n

abbrev pub LongestFirst : Type 0
LongestFirst = (came : List ℕ) (o : List Bool) (i : ℕ) → length came ≡ length o → chosen_by longest_open came o ≡ this i
    → (j : ℕ) → get_or o j false ≡ true → get_or came i 0 ≤ get_or came j 0
