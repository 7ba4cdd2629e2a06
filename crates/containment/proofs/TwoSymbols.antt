-- THE THEOREM on two symbols: `symbol_pairs`.
-- In order: each matrix of a list fixes point 0 (`each_fixes_lem`, `fixes_each`); what is said of matrices of determinant 1 is said of generators, and so of
-- all words in them (`inside_all`); the theorem.
-- Assumes nothing.
use mathlib.Core.Path.{◌≡◌, refl, sym, ◌∙◌, ap}
use mathlib.Core.Logic.{◌↔◌}
use mathlib.Core.Bool.{Bool, true, ◌&&◌}
use mathlib.Core.List.{List, [], ◌∷◌}
use Prim.Native.Nat.{ℕ, zero, suc, ◌<◌}
use native.Mathlib.Omega.{arith}
use lib.Dec.{eqb}
use lib.ListN.{length, get_or}
use lib.IntN.{ℤ}
use borrow.Author.Tests.{eq-eqb, eqb-true}
use Rattle.basics.proofs.Choice.{and_left, and_right}
use Rattle.matrix.specs.Matrix.{Mat, 𝟙}
use Rattle.symbol.specs.Symbol.{IsSymbol}
use Rattle.pairing.specs.Generator.{generators}
use Rattle.pairing.specs.Subgroup.{InH}
use Rattle.polygon.proofs.Promise.{units}
use Rattle.numbering.proofs.Find.{none_below_lem}
use Rattle.coset.specs.Tables.{table_s, table_r, index_of}
use Rattle.coset.proofs.Answer.{symbol_cosets}
use Rattle.right_cosets.specs.Leads.{leads}
use Rattle.containment.specs.Group.{EachIn}
use Rattle.containment.proofs.Generated.{own_in, all_in}
use Rattle.containment.specs.Contained.{LiesIn}
use Rattle.containment.specs.TwoSymbols.{common_cosets, common_s, common_r, common_t, Contained, each_fixes, contained, CommonSubgroup, Containment}
use Rattle.containment.specs.TwoSymbols.{SymbolPairs}
use Rattle.containment.proofs.Pairs.{intersection}
use Rattle.containment.proofs.Contained.{containing}

-- ---- each matrix of a list

fixes_each : (s r : List ℕ) (l : List Mat) → each_fixes s r l ≡ true → (j : ℕ) → j < length l → leads s r (get_or l j 𝟙) ≡ 0
fixes_each s r [] e j h = none_below_lem h
fixes_each s r (m ∷ l) e zero h = eqb-true (leads s r m) 0 (and_left (eqb (leads s r m) 0) (each_fixes s r l) e)
fixes_each s r (m ∷ l) e (suc j) h = fixes_each s r l (and_right (eqb (leads s r m) 0) (each_fixes s r l) e) j (omega arith)

each_fixes_lem : (s r : List ℕ) (l : List Mat) → ((j : ℕ) → j < length l → leads s r (get_or l j 𝟙) ≡ 0) → each_fixes s r l ≡ true
each_fixes_lem s r [] h = refl
each_fixes_lem s r (m ∷ l) h =
    ap (λ (b : Bool). b && each_fixes s r l) (eq-eqb (leads s r m) 0 (h 0 (omega arith))) ∙ each_fixes_lem s r l (λ j i. h (suc j) (omega arith))

-- ---- two symbols

module _ (v : ℕ) (t : List ℤ) (v' : ℕ) (t' : List ℤ) (ok : IsSymbol v t) (ok' : IsSymbol v' t') where
  abbrev gens : List Mat
  gens = generators v t

  abbrev gens' : List Mat
  gens' = generators v' t'

  pub common_subgroup : CommonSubgroup v t v' t'
  unfolding common_cosets common_s common_r common_t
  common_subgroup =
      let i = intersection (symbol_cosets ok) (symbol_cosets ok') in
      record { cosets = i.cosets; T_is = i.T_is }

  words_all : EachIn gens gens' → Contained gens gens'
  words_all e = all_in gens gens' e

  all_words : Contained gens gens' → EachIn gens gens'
  all_words h j l = h (get_or gens j 𝟙) (own_in gens j l)

  -- generators have determinant 1
  inside_words : LiesIn (InH gens) (InH gens') → EachIn gens gens'
  inside_words i j h = i (get_or gens j 𝟙) (units v t ok j) (own_in gens j h)

  pub inside_all : LiesIn (InH gens) (InH gens') ↔ Contained gens gens'
  inside_all = (λ i. words_all (inside_words i), λ h m u. h m)

  decided_words : contained v t v' t' ≡ true → EachIn gens gens'
  unfolding contained
  decided_words e j h = ((symbol_cosets ok').fixes (get_or gens j 𝟙) (units v t ok j)).0 (fixes_each (table_s v' t') (table_r v' t') gens e j h)

  words_decided : EachIn gens gens' → contained v t v' t' ≡ true
  unfolding contained
  words_decided e = each_fixes_lem (table_s v' t') (table_r v' t') gens (λ j h. ((symbol_cosets ok').fixes (get_or gens j 𝟙) (units v t ok j)).1 (e j h))

  pub containment : Containment v t v' t'
  unfolding common_cosets
  containment =
      let c = containing (symbol_cosets ok) (symbol_cosets ok') in
      let g = inside_all in
      record {
        decided = (λ e. words_all (decided_words e), λ h. words_decided (all_words h));
        by_words = (words_all, all_words);
        followed = (λ f. g.0 (c.followed.1 f), λ h. c.followed.0 (g.1 h));
        one_partner = (λ o. g.0 (c.one_partner.1 o), λ h. c.one_partner.0 (g.1 h));
        as_many = (λ e. g.0 (c.as_many.1 e), λ h. c.as_many.0 (g.1 h));
      }

pub symbol_pairs : SymbolPairs
symbol_pairs v t v' t' ok ok' = (common_subgroup v t v' t' ok ok', containment v t v' t' ok ok')
