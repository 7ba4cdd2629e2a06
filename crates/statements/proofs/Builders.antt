-- Every builder keeps the standing rule: `builders`.
-- Why: the rule holds for every permutation T, so it is enough that a builder's tables of S and R are permutations of the same points.
-- Assumes nothing.
use mathlib.Core.Path.{◌≡◌, refl, sym, ◌∙◌}
use mathlib.Core.List.{List}
use Prim.Native.Nat.{ℕ}
use lib.IntN.{ℤ}
use lib.ListN.{length}
use Rattle.matrix.specs.Matrix.{Mat}
use Rattle.symbol.specs.Symbol.{IsSymbol}
use Rattle.symbol.proofs.Accepted as symbols
use Rattle.numbering.specs.Table.{Permutes}
use Rattle.coset.specs.Tables.{table_s, table_r}
use Rattle.coset.proofs.Answer.{symbol_cosets}
use Rattle.partner_exchange.proofs.Theorem.{trades}
use Rattle.partner_exchange.proofs.Answered.{exchangeable}
use Rattle.right_cosets.specs.Cosets.{CosetsOf}
use Rattle.congruence.proofs.Theorem.{tables}
use Rattle.containment.specs.TwoSymbols.{CommonSubgroup}
use Rattle.containment.proofs.TwoSymbols.{symbol_pairs}
use Rattle.permutations.specs.Check.{Passport}
use Rattle.import_call.specs.Import.{SymbolOfPair}
use Rattle.permutations.proofs.Accepted as pairs
use Rattle.permutations.proofs.Pair.{passport_S, passport_R}
use Rattle.import_call.proofs.Means.{ruled_means}
use Rattle.cycle_reading.specs.Reading.{table_of_s, table_of_r}
use Rattle.cusp_record.proofs.Record.{then_permutes, coset_record}
use Rattle.cusp_record.proofs.Answer.{cusp_meaning}
use Rattle.statements.specs.Builders.{Recorded, SymbolRecorded, Imported, CommonRecorded, Builders}

recorded : {s r : List ℕ} → Permutes s → Permutes r → length r ≡ length s → Recorded s r
recorded p q e = coset_record (record { S = p; R = q; T = then_permutes p q e }) refl

symbol_recorded : {v : ℕ} {t : List ℤ} → IsSymbol v t → SymbolRecorded v t
symbol_recorded ok = (cusp_meaning ok).rule

passport_recorded : (s r : List ℕ) → Passport s r → Recorded s r
passport_recorded s r g = recorded (passport_S s r g) (passport_R s r g) g.even

cosets_recorded : {C : Mat → Type 0} {n : ℕ} {s r : List ℕ} → CosetsOf C n s r → Recorded s r
cosets_recorded g = recorded g.permutes_S g.permutes_R (g.size_R ∙ sym g.size_S)

-- the symbol's tables are the given ones renumbered
imported : {s r : List ℕ} {v : ℕ} {t : List ℤ} → SymbolOfPair s r v t → Imported s r v t
imported {s} {r} {v} {t} g =
    let both : Recorded (table_s v t) (table_r v t) = cosets_recorded (symbol_cosets g.precisely.symbol) in
    record {
      accepted = g.precisely.symbol;
      S_table = g.S_table;
      R_table = g.R_table;
      symbol = symbol_recorded g.precisely.symbol;
      renumbered = rw (← g.S_table, ← g.R_table) both;
    }

-- the table of T is the product of those of S and R
common_recorded : {v : ℕ} {t : List ℤ} {v' : ℕ} {t' : List ℤ} → CommonSubgroup v t v' t' → CommonRecorded v t v' t'
common_recorded g = record { cosets = g; rule = rw g.T_is (cosets_recorded g.cosets) }

pub builders : Builders
builders = record {
  symbols = λ v t e. symbol_recorded ((symbols.accepted v t).0 e);
  exchanges = λ v t x y e. symbol_recorded (trades (exchangeable v t x y e)).accepted;
  pairs = λ s r e. passport_recorded s r ((pairs.accepted s r).0 e);
  cycles = λ t q g. passport_recorded (table_of_s q) (table_of_r q) g.passport;
  imports = λ order s r v t e g. imported (ruled_means order s r v t ((pairs.accepted s r).0 e) g);
  families = λ f n h. record { cosets = tables f n h; rule = cosets_recorded (tables f n h) };
  intersections = λ v t v' t' e e'.
      common_recorded (symbol_pairs v t v' t' ((symbols.accepted v t).0 e) ((symbols.accepted v' t').0 e')).0;
}
