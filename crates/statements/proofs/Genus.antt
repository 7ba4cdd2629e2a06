-- The genus of every accepted symbol, and of every builder's tables, is a number: `genera`.
-- Why: what an import or an exchange gives is an accepted symbol; and the tables of a passport (`passport_pair`), and
-- those of the right cosets of a condition (`cosets_pair`), are a transitive pair on which S twice and R three times
-- move nothing.
-- Assumes nothing.
use mathlib.Core.List.{List}
use Prim.Native.Nat.{ℕ}
use lib.IntN.{ℤ}
use Rattle.symbol.specs.Symbol.{IsSymbol}
use Rattle.symbol.proofs.Accepted as symbols
use Rattle.figures.proofs.Genus.{tables_genus}
use Rattle.coset.proofs.Genus.{cosets_pair}
use Rattle.coset.proofs.Answer.{meaning}
use Rattle.partner_exchange.proofs.Theorem.{trades}
use Rattle.partner_exchange.proofs.Answered.{exchangeable}
use Rattle.congruence.proofs.Theorem.{tables}
use Rattle.containment.proofs.TwoSymbols.{symbol_pairs}
use Rattle.permutations.proofs.Accepted as pairs
use Rattle.import_call.proofs.Thirds.{passport_pair}
use Rattle.import_call.proofs.Means.{ruled_means}
use Rattle.statements.specs.Genus.{SymbolGenus, Genera}

symbol_genus : {v : ℕ} {t : List ℤ} → IsSymbol v t → SymbolGenus v t
symbol_genus ok = (meaning ok).genus

pub genera : Genera
genera = record {
  symbols = λ v t e. symbol_genus ((symbols.accepted v t).0 e);
  exchanges = λ v t x y e. symbol_genus (trades (exchangeable v t x y e)).accepted;
  pairs = λ s r e. tables_genus (passport_pair ((pairs.accepted s r).0 e));
  cycles = λ t q g. tables_genus (passport_pair g.passport);
  imports = λ order s r v t e g. symbol_genus (ruled_means order s r v t ((pairs.accepted s r).0 e) g).precisely.symbol;
  families = λ f n h. tables_genus (cosets_pair (tables f n h));
  intersections = λ v t v' t' e e'.
      let ok = (symbols.accepted v t).0 e in
      let ok' = (symbols.accepted v' t').0 e' in
      tables_genus (cosets_pair (symbol_pairs v t v' t' ok ok').0.cosets);
}
