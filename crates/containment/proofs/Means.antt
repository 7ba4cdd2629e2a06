-- What the call tells: a number 0 with 1 for yes and 0 for no (`same_says`); what a decision means (`decides_same`, `decides_different`); and yes for symbols
-- that differ in their labels only (`relabelled_same`).
-- Why: where both tables are accepted they are symbols, and the answer is whether their coset tables are equal; relabelled symbols have the same generators.
-- Assumes nothing.
use Rattle.std.specs.Prelude.{Ok, Err}
use mathlib.Core.Path.{◌≡◌, refl, sym, ◌∙◌, ap}
use mathlib.Core.Logic.{inl, inr}
use mathlib.Core.Bool.{Bool, true, false}
use mathlib.Core.List.{List}
use Prim.Native.Nat.{ℕ}
use native.Mathlib.Omega.{arith}
use lib.IntN.{ℤ}
use lib.ListN.{length}
use Rattle.basics.proofs.Choice.{clash}
use Rattle.call.specs.Refusal.{◌or_else◌, answer_number, answer_place, Checked, Decision}
use Rattle.call.specs.declared.refusal.Refusal.{Refusal}
use Rattle.call.proofs.Answers.{both_pass}
use Rattle.call.specs.Space.{work_length}
use Rattle.call.specs.Call.{Lent, length_check, if_accepted, number_of, place_of, bit}
use Rattle.call.specs.Inner.Fills.{decided}
use Rattle.call.proofs.Laws.{room_long}
use Rattle.symbol.specs.Check.{symbol_check}
use Rattle.symbol.specs.Symbol.{IsSymbol}
use Rattle.symbol.proofs.Accepted.{accepted}
use Rattle.pairing.specs.Generator.{generators}
use Rattle.pairing.proofs.Both.{two_say, two_accepted}
use Rattle.containment.specs.Group.{same_tables}
use Rattle.containment.specs.Same.{Same, Different, SameSays, same_call}
use Rattle.containment.specs.Relabel.{RelabelledSame}
use Rattle.containment.proofs.Relabel.{relabelled_generators}
use Rattle.containment.proofs.Theorem.{same_symbols, equal_same}

module _ (v : ℕ) (t : List ℤ) (v' : ℕ) (t' : List ℤ) where
  -- two symbols
  is_same : IsSymbol v t → IsSymbol v' t' → same_tables v t v' t' ≡ true → Same v t v' t'
  is_same s s' e =
      let o = same_symbols v t v' t' s s' in
      let g = o.by_tables.0 e in
      record { one = s; other = s'; group = g; words = o.by_words.1 g }

  is_different : IsSymbol v t → IsSymbol v' t' → same_tables v t v' t' ≡ false → Different v t v' t'
  is_different s s' e =
      let o = same_symbols v t v' t' s s' in
      record { one = s; other = s'; group = λ g. clash (o.by_tables.1 g) e; words = λ w. clash (o.by_tables.1 (o.by_words.0 w)) e }

  told : (b : Bool) → same_tables v t v' t' ≡ b → IsSymbol v t → IsSymbol v' t' → SameSays v t v' t' (bit b)
  told true e s s' = inl (refl, is_same s s' e)
  told false e s s' = inr (refl, is_different s s' e)

  pub same_says : (w : Lent (List ℕ)) → (same_call v t v' t' w).Says (number_of (same_call v t v' t' w)) (place_of (same_call v t v' t' w))
  same_says w = two_say v t v' t' w (SameSays v t v' t') (bit (same_tables v t v' t')) (told (same_tables v t v' t') refl)

  -- where the work space is long enough, the decision is by the symbols alone
  abbrev checks : Checked
  checks = symbol_check v t or_else symbol_check v' t'

  decided_as : (c : Checked) (b : Bool) → checks ≡ c → same_tables v t v' t' ≡ b
      → (decided b c ≡ Ok true → Same v t v' t') × (decided b c ≡ Ok false → Different v t v' t')
  decided_as (Err f) b p e = (λ k. let z : ◌≡◌ {A = ℕ} 0 1 = cc in absurd (omega arith), λ k. let z : ◌≡◌ {A = ℕ} 0 1 = cc in absurd (omega arith))
  decided_as (Ok tt) true p e =
      let q = both_pass (symbol_check v t) (symbol_check v' t') p in
      (λ k. is_same ((accepted v t).0 q.0) ((accepted v' t').0 q.1) e, λ k. let z : ◌≡◌ {A = ℕ} 0 1 = cc in absurd (omega arith))
  decided_as (Ok tt) false p e =
      let q = both_pass (symbol_check v t) (symbol_check v' t') p in
      (λ k. let z : ◌≡◌ {A = ℕ} 0 1 = cc in absurd (omega arith), λ k. is_different ((accepted v t).0 q.0) ((accepted v' t').0 q.1) e)

  pub decides_same : decided (same_tables v t v' t') checks ≡ Ok true → Same v t v' t'
  decides_same = (decided_as checks (same_tables v t v' t') refl refl).0

  pub decides_different : decided (same_tables v t v' t') checks ≡ Ok false → Different v t v' t'
  decides_different = (decided_as checks (same_tables v t v' t') refl refl).1

pub relabelled_same : RelabelledSame
relabelled_same v t v' t' ok ok' r =
    let e = relabelled_generators v t v' t' ok ok' r in
    let s = (same_symbols v t v' t' ok ok').by_tables.1 (equal_same (generators v t) (generators v' t') e) in (
      e,
      λ w h.
          let is = two_accepted v t v' t' (length_check work_length (length w.entry.now) or_else (Ok tt)) ok ok'
          (ap (λ (x : Checked). x or_else (Ok tt)) (room_long work_length (length w.entry.now) h)) in (
            ap (λ (x : Checked). answer_number x) is,
            ap (λ (x : Checked). if_accepted x (bit (same_tables v t v' t')) (answer_place x)) is ∙ ap bit s,
          ),
    )
