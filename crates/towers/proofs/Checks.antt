-- The checks of a tower, one after another.
--
-- In order: an entry is accepted exactly where it has a symbol (`entry_accepted`); all are (`symbols_accepted`); the checks by the loop's turns
-- (`symbols_more`, `check_stops`); a name is listed before (`names_listed`, `listed_names`); and all that as the code reads it (`entry_read`,
-- `negative_unlisted`, `natural_listed`, `negative_holds`, `natural_holds`, `named_below`).
-- Assumes nothing.
use Rattle.std.specs.Prelude.{Ok, Err}
use mathlib.Core.Path.{◌≡◌, refl, sym, ◌∙◌, ap}
use mathlib.Core.Logic.{inl, inr, ◌↔◌}
use mathlib.Core.Bool.{Bool, true, false}
use mathlib.Core.List.{List}
use Prim.Native.Nat.{ℕ, zero, suc, ◌-◌, ◌≤◌, ◌<◌}
use native.Mathlib.Omega.{arith}
use native.Mathlib.Decide.{dec_lt}
use lib.Dec.{ltb, eqb}
use lib.ListN.{length, take, drop, length-drop}
use lib.Seq.{take_all}
use borrow.Author.Tests.{ltb-true, lt-ltb, le-ltb, eqb-true, ne_eqb}
use lib.IntN.{ℤ, pos, negsuc}
use lib.Signed.{lt_z}
use Rattle.basics.specs.Choice.{pick}
use Rattle.basics.proofs.Choice.{pick_false, clash}
use Rattle.call.specs.Refusal.{◌or_else◌, refusal_number, Checked}
use Rattle.call.specs.declared.refusal.Refusal.TheVariants.{TableLength}
use Rattle.call.specs.declared.refusal.Refusal.{Refusal}
use Rattle.call.proofs.Apart.{refused_accepted}
use Rattle.call.proofs.Answers.{both_pass, pass_both, first_refuses, then_next}
use Rattle.call.proofs.Numbered.{Among, among_first}
use Rattle.symbol.specs.Check.{symbol_check}
use Rattle.symbol.specs.Symbol.{IsSymbol}
use Rattle.symbol.proofs.Accepted.{accepted, check_among}
use Rattle.containment.specs.TwoSymbols.{contained}
use Rattle.towers.specs.Tower.{or_zero, entry_vertices, entry_table, entry_check, from_entry, named_at, vertices_at, table_at, symbols_check, listed_before}
use Rattle.towers.specs.Tower.{claim_holds}
use Rattle.towers.specs.Meaning.{AreSymbols, NameListed}
use Rattle.towers.specs.Inner.Entries.{EntriesWhole, StartsAt}
use Rattle.towers.proofs.Entries.{symbol_fits}

-- ---- an entry

picked : (b : Bool) (f : Refusal) (c : Checked) → pick b (Err f) c ≡ Ok tt → c ≡ Ok tt
picked true f c e = refused_accepted e
picked false f c e = e

pub entry_accepted : (last : Bool) (l : List ℤ) → (entry_check last l ≡ Ok tt) ↔ IsSymbol (entry_vertices l) (entry_table last l)
entry_accepted last l = (
  λ e. (accepted (entry_vertices l) (entry_table last l)).0 (picked (ltb (length l) 2) (TableLength 0) (symbol_check (entry_vertices l) (entry_table last l)) e),
  λ s. pick_false (ltb (length l) 2) (Err (TableLength 0)) (symbol_check (entry_vertices l) (entry_table last l))
      (le-ltb (length l) 2 (let h = symbol_fits last l s in omega arith))
      ∙ (accepted (entry_vertices l) (entry_table last l)).1 s,
)

among_pick : (low high : ℕ) (b : Bool) (f : Refusal) (c : Checked) → low ≤ refusal_number f → refusal_number f ≤ high → Among low high c
    → Among low high (pick b (Err f) c)
among_pick low high true f c h k a = (h, k)
among_pick low high false f c h k a = a

entry_among : (last : Bool) (l : List ℤ) → Among 1 7 (entry_check last l)
entry_among last l =
    among_pick 1 7 (ltb (length l) 2) (TableLength 0) (symbol_check (entry_vertices l) (entry_table last l)) (omega arith) (omega arith)
    (check_among (entry_vertices l) (entry_table last l))

-- ---- all entries

module _ (n : ℕ) (t : List ℤ) where
  abbrev entry_at : ℕ → Checked
  entry_at e = entry_check (eqb (suc e) n) (from_entry t e)

  pub symbols_none : symbols_check n t 0 ≡ Ok tt
  unfolding symbols_check
  symbols_none = refl

  symbols_step : (e : ℕ) → symbols_check n t (suc e) ≡ (symbols_check n t e or_else entry_at e)
  unfolding symbols_check
  symbols_step e = refl

  pub symbols_more : (e : ℕ) → symbols_check n t e ≡ Ok tt → entry_at e ≡ Ok tt → symbols_check n t (suc e) ≡ Ok tt
  symbols_more e p q = symbols_step e ∙ pass_both (symbols_check n t e) (entry_at e) p q

  each_passed : (e : ℕ) → symbols_check n t e ≡ Ok tt → (i : ℕ) → i < e → entry_at i ≡ Ok tt
  each_passed zero p i h = absurd (omega arith)
  each_passed (suc e) p i h =
      let b = both_pass (symbols_check n t e) (entry_at e) (sym (symbols_step e) ∙ p) in
      elim (dec_lt i e) [ yes l ↦ each_passed e b.0 i l | no l ↦ let z : i ≡ e = omega arith in ap entry_at z ∙ b.1 ]

  all_pass : (e : ℕ) → ((i : ℕ) → i < e → entry_at i ≡ Ok tt) → symbols_check n t e ≡ Ok tt
  all_pass zero p = symbols_none
  all_pass (suc e) p = symbols_more e (all_pass e (λ i h. p i (omega arith))) (p e (omega arith))

  pub symbols_accepted : (symbols_check n t n ≡ Ok tt) ↔ AreSymbols n t
  symbols_accepted = (
    λ p e h. (entry_accepted (eqb (suc e) n) (from_entry t e)).0 (each_passed n p e h),
    λ s. all_pass n (λ i h. (entry_accepted (eqb (suc i) n) (from_entry t i)).1 (s i h)),
  )

  pub symbols_among : (e : ℕ) → Among 1 7 (symbols_check n t e)
  unfolding symbols_check
  symbols_among zero = tt
  symbols_among (suc e) = among_first 1 7 (symbols_check n t e) (entry_at e) (symbols_among e) (entry_among (eqb (suc e) n) (from_entry t e))

  -- entries that passed are whole
  pub whole_passed : (e : ℕ) → symbols_check n t e ≡ Ok tt → EntriesWhole t e
  whole_passed e p = record {
    fits = λ i h. symbol_fits (eqb (suc i) n) (from_entry t i) ((entry_accepted (eqb (suc i) n) (from_entry t i)).0 (each_passed e p i h));
  }

  -- the first entry at fault decides
  pub check_stops : (m e : ℕ) (f : Refusal) → e < m → symbols_check n t e ≡ Ok tt → entry_at e ≡ Err f → Err f ≡ symbols_check n t m
  check_stops zero e f h p q = absurd (omega arith)
  check_stops (suc m) e f h p q = elim (dec_lt e m) [
    | yes l ↦ first_refuses (symbols_check n t m) (entry_at m) f (sym (check_stops m e f l p q)) ∙ sym (symbols_step m)
    | no l ↦ let z : e ≡ m = omega arith in
        sym (ap entry_at (sym z) ∙ q) ∙ then_next (symbols_check n t m) (entry_at m) (ap (symbols_check n t) (sym z) ∙ p) ∙ sym (symbols_step m)
  ]

-- ---- names

pub names_listed : (t : List ℤ) (e : ℕ) → listed_before (named_at t e) e ≡ true → NameListed t e
names_listed t e p = go (named_at t e) refl p
  where
    go : (x : ℤ) → named_at t e ≡ x → listed_before x e ≡ true → NameListed t e
    go (pos j) q h = inr (record { named = j; is = q; before = ltb-true j e h })
    go (negsuc k) q h = inl (q ∙ ap negsuc (eqb-true k 0 h))

pub listed_names : (t : List ℤ) (e : ℕ) → NameListed t e → listed_before (named_at t e) e ≡ true
listed_names t e (inl q) = ap (λ (x : ℤ). listed_before x e) q
listed_names t e (inr m) = ap (λ (x : ℤ). listed_before x e) m.is ∙ lt-ltb m.named e m.before

-- ---- as the code reads them

-- the checks of the part from p on
pub entry_read : (n : ℕ) {t : List ℤ} {e p : ℕ} → StartsAt t e p → (k : ℕ) → k ≡ suc e → (r : Checked) → r
    ≡ entry_check (eqb k n) (take (length t - p) (drop p t))
    → r ≡ entry_check (eqb (suc e) n) (from_entry t e)
entry_read n {t} {e} {p} s k z r h =
    let a : take (length t - p) (drop p t) ≡ from_entry t e = take_all (length t - p) (drop p t) (omega (arith, length-drop p t)) ∙ s.rest in
    h ∙ ap (λ (l : List ℤ). entry_check (eqb k n) l) a ∙ ap (λ (j : ℕ). entry_check (eqb j n) (from_entry t e)) z

pub negative_unlisted : (x : ℤ) (e : ℕ) → lt_z x (pos 0) ≡ true → (x ≡ negsuc 0 → ⊥) → false ≡ listed_before x e
negative_unlisted (pos n) e h k = let l = ltb-true n 0 h in absurd (omega arith)
negative_unlisted (negsuc n) e h k = sym (ne_eqb n 0 (λ z. k (ap negsuc z)))

pub natural_listed : (x : ℤ) (e : ℕ) → lt_z x (pos 0) ≡ false → ltb (or_zero x) e ≡ listed_before x e
natural_listed (pos n) e h = refl
natural_listed (negsuc n) e h = clash refl h

pub negative_holds : (n : ℕ) (t : List ℤ) (e : ℕ) (x : ℤ) → lt_z x (pos 0) ≡ true → true ≡ claim_holds n t e x
negative_holds n t e (pos j) h = let l = ltb-true j 0 h in absurd (omega arith)
negative_holds n t e (negsuc k) h = refl

pub natural_holds : (n : ℕ) (t : List ℤ) (e : ℕ) (x : ℤ) → lt_z x (pos 0) ≡ false
    → contained (vertices_at t e) (table_at n t e) (vertices_at t (or_zero x)) (table_at n t (or_zero x)) ≡ claim_holds n t e x
natural_holds n t e (pos j) h = refl
natural_holds n t e (negsuc k) h = clash refl h

pub named_below : (t : List ℤ) (e : ℕ) → NameListed t e → lt_z (named_at t e) (pos 0) ≡ false → or_zero (named_at t e) < e
named_below t e (inl z) h = clash (ap (λ (x : ℤ). lt_z x (pos 0)) z) h
named_below t e (inr m) h = let z : or_zero (named_at t e) ≡ m.named = ap or_zero m.is in omega (arith, m.before)
