-- WHAT AN ANSWER TELLS: so many vertices, that nothing was refused (`told_made`); a refusal, that it is the verdict (`told_refused`). Of an import: the rule
-- gave the symbol's table (`rule_made`), or no symbol (`rule_over`). Assumes nothing.
use Rattle.std.specs.Prelude.{Ok, Err}
use mathlib.Core.Path.{◌≡◌, refl, sym, ◌∙◌, ap}
use mathlib.Core.List.{List}
use Prim.Native.Nat.{ℕ}
use Rattle.call.specs.Refusal.{Checked, Filled, outcome}
use Rattle.call.specs.declared.refusal.Refusal.TheVariants.{EntryTooLarge}
use Rattle.call.specs.declared.refusal.Refusal.{Refusal}
use Rattle.call.proofs.Apart.{refused_accepted, refused_made}
use Rattle.call.specs.Inner.Fills.{made_if}
use Rattle.import_rule.specs.Order.{Order}
use Rattle.import_rule.specs.Symbol.{Ruled, made, over, ruled_by}
use Rattle.import_symbol.specs.Answer.{check16, ruled_table}
use Rattle.permutations.specs.Check.{Passport}
use Rattle.import_call.specs.Import.{needed_vertices}
use Rattle.import_call.proofs.Means.{ruled_means}

pub told_made : {m v : ℕ} {a : Filled} (c : Checked) → a ≡ made_if m c → a ≡ Ok v → (c ≡ Ok tt) × (v ≡ m)
told_made {m} {v} (Ok _) e d = let q : Ok v ≡ Ok m = sym d ∙ e in (refl, cc)
told_made (Err f) e d = refused_made (sym e ∙ d)

pub told_refused : (m : ℕ) {a : Filled} {x : Refusal} (c : Checked) → a ≡ made_if m c → a ≡ Err x → c ≡ Err x
told_refused m (Ok _) e d = refused_made (sym d ∙ e)
told_refused m (Err f) e d = ap outcome (sym e ∙ d)

pub rule_made : (order : Order) (s r : List ℕ) → Passport s r → check16 (ruled_by order s r) ≡ Ok tt
    → ruled_by order s r ≡ made (needed_vertices r) (ruled_table (ruled_by order s r))
rule_made order s r p e = go (ruled_by order s r) refl e
  where
    go : (g : Ruled) → ruled_by order s r ≡ g → check16 g ≡ Ok tt → g ≡ made (needed_vertices r) (ruled_table g)
    go (made v t) q z = ap (λ (k : ℕ). made k t) (ruled_means order s r v t p q).vertices
    go (over i) q z = refused_accepted z

-- the side that can't be split
pub record Over (g : Ruled) (x : Refusal) : Type 0 where
  pub side : ℕ
  pub is : g ≡ over side
  pub refusal : x ≡ EntryTooLarge side

pub rule_over : (g : Ruled) {x : Refusal} → check16 g ≡ Err x → Over g x
rule_over (made v t) e = refused_accepted (sym e)
rule_over (over i) {x} e = let q : EntryTooLarge i ≡ x = cc in record { side = i; is = refl; refusal = sym q }
