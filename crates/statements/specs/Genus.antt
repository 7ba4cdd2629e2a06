-- THE GENUS IS A NUMBER FOR EVERYONE: refusal 18 is the genus of no accepted symbol, and of no tables of S and R that a
-- builder takes or gives. The proof is `genera`, in proofs/Genus.antt.
--
--   SymbolGenus v t    the genus among the figures of a symbol is a number
--   Genera             the theorem, in these parts:
--     symbols          for each symbol that the checks 1 to 7 accept, whoever made it
--     exchanges        for each symbol that an exchange of partners gives
--     pairs            for each pair of tables that the checks 12 to 15 accept, as given
--     cycles           for the tables of each text in cycle notation that is read
--     imports          for each symbol that an import gives, by the rule under every order
--     families         for the tables of Γ0(n), Γ1(n) and Γ(n)
--     intersections    for the tables of the intersection of two accepted symbols' subgroups
-- These are the builders of specs/Builders.antt, which says of each crate where it is.
use Rattle.std.specs.Prelude.{◌≡◌, List, ℕ, ◌<◌, ℤ, Ok}
use Rattle.symbol.specs.Check.{symbol_check}
use Rattle.figures.specs.Genus.{HasGenus, TablesGenus}
use Rattle.coset.specs.Answer.{figures_of}
use Rattle.partner_exchange.specs.Exchange.{exchanged}
use Rattle.partner_exchange.specs.Answer.{exchange_check}
use Rattle.congruence.specs.Cosets.{family_s, family_r}
use Rattle.congruence.specs.declared.Family.{Family}
use Rattle.containment.specs.TwoSymbols.{common_s, common_r}
use Rattle.import_rule.specs.Order.{Order}
use Rattle.import_rule.specs.Symbol.{made, ruled_by}
use Rattle.permutations.specs.Check.{pair_check}
use Rattle.cycle_notation.specs.Verdict.{Read}
use Rattle.cycle_reading.specs.Reading.{table_of_s, table_of_r, GoodPair}

abbrev pub SymbolGenus : ℕ → List ℤ → Type 0
SymbolGenus v t = HasGenus (figures_of v t).genus

pub record Genera : Type 0 where
  pub symbols : (v : ℕ) (t : List ℤ) → symbol_check v t ≡ Ok tt → SymbolGenus v t
  pub exchanges : (v : ℕ) (t : List ℤ) (x y : ℤ) → exchange_check v t x y ≡ Ok tt
      → SymbolGenus v (exchanged v t x y)
  pub pairs : (s r : List ℕ) → pair_check s r ≡ Ok tt → TablesGenus s r
  pub cycles : (t : List ℕ) (q : Read) → GoodPair t q → TablesGenus (table_of_s q) (table_of_r q)
  pub imports : (order : Order) (s r : List ℕ) (v : ℕ) (t : List ℤ) → pair_check s r ≡ Ok tt
      → ruled_by order s r ≡ made v t → SymbolGenus v t
  pub families : (f : Family) (n : ℕ) → 0 < n → TablesGenus (family_s f n) (family_r f n)
  pub intersections : (v : ℕ) (t : List ℤ) (v' : ℕ) (t' : List ℤ) → symbol_check v t ≡ Ok tt
      → symbol_check v' t' ≡ Ok tt → TablesGenus (common_s v t v' t') (common_r v t v' t')
