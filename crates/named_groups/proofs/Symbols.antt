-- The symbol that the rule gives for a family's tables is one of the group: `symbol_named`.
-- Assumes nothing.
use mathlib.Core.Path.{sym, ◌∙◌}
use mathlib.Core.List.{List}
use Prim.Native.Nat.{ℕ}
use lib.IntN.{ℤ}
use Rattle.congruence.specs.Cosets.{family_s, family_r}
use Rattle.congruence.specs.declared.Family.{Family}
use Rattle.congruence_tables.specs.Inner.Held.{Group}
use Rattle.import_call.specs.Import.{SymbolOfPair}
use Rattle.named_groups.specs.Answer.{NamedSymbol}
use Rattle.named_groups.proofs.Tables.{family_cosets_lem, leads_same, numbered_S, numbered_R}

pub symbol_named : (f : Family) (n : ℕ) → Group f n → (v : ℕ) (t : List ℤ) → SymbolOfPair (family_s f n) (family_r f n) v t → NamedSymbol f n v t
symbol_named f n g v t y =
    let a = family_cosets_lem f n g in
    record {
      symbol = y.precisely.symbol;
      group = λ m u.
          let p = y.precisely.group m u in
          let q = a.fixes m u in
          let e = leads_same a m in
          ((λ h. q.0 (sym e ∙ p.0 h)), (λ h. p.1 (e ∙ q.1 h)));
      index = sym y.index ∙ a.size_S;
      S_table = y.S_table ∙ numbered_S a;
      R_table = y.R_table ∙ numbered_R a;
      passport = y.passport;
      vertices = y.vertices;
      thirds = y.thirds ∙ a.size_R;
    }
