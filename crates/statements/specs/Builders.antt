-- EVERY BUILDER OF COSET TABLES KEEPS THE STANDING RULE of the coset record (`CosetRecord`, in `cusp_record`): the
-- tables of S, R and T are permutations, T is S first and then R, and T keeps the cusp of a coset and adds one to its
-- steps, back to 0 after the width. The proof is `builders`, in proofs/Builders.antt.
--
--   Recorded s r       the rule for tables s and r of S and R, with their product as the table of T
--   SymbolRecorded v t the rule for the coset tables of a symbol
--   Imported s r v t   of what an import of the tables s and r gives: it is a symbol, its coset tables are the given
--                      ones renumbered, and the rule holds for these
--   FamilyRecorded f n the tables of the family f for n are those of its cosets, and the rule holds for them
--   CommonRecorded v t v' t'
--                      the tables of the intersection of two symbols' subgroups are those of its cosets, and the rule
--                      holds for those of S, R and T
--   Builders           the theorem, in parts. Every crate that makes a symbol or coset tables has its part here:
--     symbols          `coset`: the tables of a symbol that the checks 1 to 7 accept, whoever made it. `cusp_record`,
--                      `containment`, `intersections`, `partner_exchange` and `listing_text` have a symbol's
--                      tables from `coset`, `same_coset` has them from `cusp_record`, `towers` from
--                      `containment`
--     exchanges        `partner_exchange`: each symbol that an exchange gives
--     pairs            `permutations`: each pair of tables that the checks 12 to 15 accept, as given
--     cycles           `cycle_reading`: the tables of each text in cycle notation that is read
--     imports          `import_call`, by `import_symbol`: each symbol that an import gives, by the rule under every
--                      order
--     families         `named_groups`, by `congruence_tables`: the tables of Γ0(n), Γ1(n) and Γ(n), which are those of
--                      its cosets, as many as its index. A symbol that it makes is one of an import of these tables;
--                      it is accepted (`NamedSymbol`, in `named_groups`), so that it is among the symbols
--     intersections    `intersections`: the tables of the intersection of two accepted symbols' subgroups
-- The library (`engine`) and the programs (the crates `.._text`) hand on what these crates make.
use Rattle.std.specs.Prelude.{◌≡◌, List, ℕ, ◌<◌, ℤ, Ok}
use Rattle.symbol.specs.Check.{symbol_check}
use Rattle.symbol.specs.Symbol.{IsSymbol}
use Rattle.numbering.specs.Table.{◌then_table◌, renamed}
use Rattle.coset.specs.Tables.{table_s, table_r, table_t}
use Rattle.partner_exchange.specs.Exchange.{exchanged}
use Rattle.partner_exchange.specs.Answer.{exchange_check}
use Rattle.congruence.specs.Congruence.{Meets}
use Rattle.congruence.specs.Index.{family_index}
use Rattle.congruence.specs.Cosets.{family_s, family_r}
use Rattle.right_cosets.specs.Cosets.{CosetsOf}
use Rattle.congruence.specs.declared.Family.{Family}
use Rattle.containment.specs.TwoSymbols.{common_s, common_r, common_t, CommonSubgroup}
use Rattle.permutations.specs.Pair.{image}
use Rattle.import_rule.specs.Order.{Order}
use Rattle.import_rule.specs.Symbol.{made, ruled_by}
use Rattle.permutations.specs.Check.{pair_check}
use Rattle.import_call.specs.Import.{numbering}
use Rattle.cycle_notation.specs.Verdict.{Read}
use Rattle.cycle_reading.specs.Reading.{table_of_s, table_of_r, GoodPair}
use Rattle.cusp_record.specs.Record.{cusp_table, step_table, CosetRecord}
use Rattle.cusp_record.specs.Answer.{cusp_column, step_column}

abbrev pub Recorded : (s r : List ℕ) → Type 0
Recorded s r = CosetRecord s r (s then_table r) (cusp_table (s then_table r)) (step_table (s then_table r))

abbrev pub SymbolRecorded : ℕ → List ℤ → Type 0
SymbolRecorded v t = CosetRecord (table_s v t) (table_r v t) (table_t v t) (cusp_column v t) (step_column v t)

pub record Imported (s r : List ℕ) (v : ℕ) (t : List ℤ) : Type 0 where
  pub accepted : IsSymbol v t
  pub S_table : table_s v t ≡ renamed (numbering s r) (image s)
  pub R_table : table_r v t ≡ renamed (numbering s r) (image r)
  pub symbol : SymbolRecorded v t
  pub renumbered : Recorded (renamed (numbering s r) (image s)) (renamed (numbering s r) (image r))

pub record FamilyRecorded (f : Family) (n : ℕ) : Type 0 where
  pub cosets : CosetsOf (Meets f n) (family_index f n) (family_s f n) (family_r f n)
  pub rule : Recorded (family_s f n) (family_r f n)

pub record CommonRecorded (v : ℕ) (t : List ℤ) (v' : ℕ) (t' : List ℤ) : Type 0 where
  pub cosets : CommonSubgroup v t v' t'
  pub rule : let u = common_t v t v' t' in
      CosetRecord (common_s v t v' t') (common_r v t v' t') u (cusp_table u) (step_table u)

pub record Builders : Type 0 where
  pub symbols : (v : ℕ) (t : List ℤ) → symbol_check v t ≡ Ok tt → SymbolRecorded v t
  pub exchanges : (v : ℕ) (t : List ℤ) (x y : ℤ) → exchange_check v t x y ≡ Ok tt
      → SymbolRecorded v (exchanged v t x y)
  pub pairs : (s r : List ℕ) → pair_check s r ≡ Ok tt → Recorded s r
  pub cycles : (t : List ℕ) (q : Read) → GoodPair t q → Recorded (table_of_s q) (table_of_r q)
  pub imports : (order : Order) (s r : List ℕ) (v : ℕ) (t : List ℤ) → pair_check s r ≡ Ok tt
      → ruled_by order s r ≡ made v t → Imported s r v t
  pub families : (f : Family) (n : ℕ) → 0 < n → FamilyRecorded f n
  pub intersections : (v : ℕ) (t : List ℤ) (v' : ℕ) (t' : List ℤ) → symbol_check v t ≡ Ok tt
      → symbol_check v' t' ≡ Ok tt → CommonRecorded v t v' t'
