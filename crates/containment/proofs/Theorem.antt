-- THE THEOREM on one subgroup and two symbols, `same_symbols`.
-- In order: equal tables (`equal_tables_lem`, `tables_equal`); a subgroup is another one exactly where generators are words (`by_each`, `same_each`); the
-- tables of one subgroup are equal (`one_subgroup`), and equal tables are those of one subgroup (`one_by_tables`); the theorem.
-- Why: the tables of the right cosets of a condition are determined, and in them a matrix fixes point 0 precisely when it meets the condition.
-- Assumes nothing.
use mathlib.Core.Logic.{◌↔◌}
use mathlib.Core.Path.{◌≡◌, refl, sym, ◌∙◌, ap}
use mathlib.Core.Bool.{Bool, true, ◌&&◌}
use mathlib.Core.List.{List, [], ◌∷◌}
use Prim.Native.Nat.{ℕ}
use lib.Dec.{eqb}
use lib.ListN.{get_or}
use lib.IntN.{ℤ, pos}
use borrow.Author.Tests.{eq-eqb, eqb-true}
use Rattle.matrix.specs.Matrix.{Mat, 𝟙, det}
use Rattle.basics.proofs.Choice.{clash, and_left, and_right}
use Rattle.symbol.specs.Symbol.{IsSymbol}
use Rattle.pairing.specs.Generator.{generators}
use Rattle.pairing.specs.Subgroup.{InH}
use Rattle.polygon.proofs.Promise.{units}
use Rattle.coset.specs.Tables.{table_s, table_r, index_of}
use Rattle.coset.proofs.Answer.{symbol_cosets}
use Rattle.right_cosets.specs.Leads.{leads}
use Rattle.right_cosets.proofs.Tabled.{cosets_as}
use Rattle.right_cosets.proofs.Theorem.{one_table}
use Rattle.containment.specs.Group.{SameGroup, EachOther, equal_tables, same_tables, OneGroup, SameSymbols}
use Rattle.containment.proofs.Generated.{generated, own_in, all_in}

-- ---- equal tables

pub equal_tables_lem : (a b : List ℕ) → equal_tables a b ≡ true → a ≡ b
equal_tables_lem [] [] e = refl
equal_tables_lem [] (y ∷ b) e = clash e refl
equal_tables_lem (x ∷ a) [] e = clash e refl
equal_tables_lem (x ∷ a) (y ∷ b) e =
    let h = eqb-true x y (and_left (eqb x y) (equal_tables a b) e) in
    let k = equal_tables_lem a b (and_right (eqb x y) (equal_tables a b) e) in
    cc (h, k)

pub tables_own : (a : List ℕ) → equal_tables a a ≡ true
tables_own [] = refl
tables_own (x ∷ a) = ap (λ (b : Bool). b && equal_tables a a) (eq-eqb x x refl) ∙ tables_own a

pub tables_equal : (a b : List ℕ) → a ≡ b → equal_tables a b ≡ true
tables_equal a b e = ap (equal_tables a) (sym e) ∙ tables_own a

-- ---- generators

module _ (gens gens' : List Mat) where
  pub by_each : EachOther gens gens' → SameGroup gens gens'
  by_each e m = (all_in gens gens' e.0 m, all_in gens' gens e.1 m)

-- ---- two symbols

module _ (v : ℕ) (t : List ℤ) (v' : ℕ) (t' : List ℤ) (ok : IsSymbol v t) (ok' : IsSymbol v' t') where
  abbrev gens : List Mat
  gens = generators v t

  abbrev gens' : List Mat
  gens' = generators v' t'

  same_each : SameGroup gens gens' → EachOther gens gens'
  same_each e = (
    λ j h. (e (get_or gens j 𝟙)).0 (own_in gens j h),
    λ j h. (e (get_or gens' j 𝟙)).1 (own_in gens' j h),
  )

  one_subgroup : SameGroup gens gens' → (table_s v t ≡ table_s v' t') × (table_r v t ≡ table_r v' t')
  one_subgroup e =
      let a = cosets_as e (symbol_cosets ok) in
      (one_table (InH gens') (generated gens') (index_of v t) (index_of v' t') (table_s v t) (table_r v t) (table_s v' t') (table_r v' t') a
      (symbol_cosets ok')).1

  units_by_tables : table_s v t ≡ table_s v' t' → table_r v t ≡ table_r v' t' → (m : Mat) → det m ≡ pos 1 → InH gens m ↔ InH gens' m
  units_by_tables e f m u =
      let a = (symbol_cosets ok).fixes m u in
      let b = (symbol_cosets ok').fixes m u in
      let k : leads (table_s v t) (table_r v t) m ≡ leads (table_s v' t') (table_r v' t') m =
      ap (λ (x : List ℕ). leads x (table_r v t) m) e ∙ ap (λ (x : List ℕ). leads (table_s v' t') x m) f in
      (λ h. b.0 (sym k ∙ a.1 h), λ h. a.0 (k ∙ b.1 h))

  one_by_tables : table_s v t ≡ table_s v' t' → table_r v t ≡ table_r v' t' → SameGroup gens gens'
  one_by_tables e f = by_each gens gens' (
    λ j h. (units_by_tables e f (get_or gens j 𝟙) (units v t ok j)).0 (own_in gens j h),
    λ j h. (units_by_tables e f (get_or gens' j 𝟙) (units v' t' ok' j)).1 (own_in gens' j h),
  )

  tables_same : same_tables v t v' t' ≡ true → SameGroup gens gens'
  unfolding same_tables
  tables_same e =
      let x = equal_tables (table_s v t) (table_s v' t') in
      let y = equal_tables (table_r v t) (table_r v' t') in
      one_by_tables (equal_tables_lem (table_s v t) (table_s v' t') (and_left x y e)) (equal_tables_lem (table_r v t) (table_r v' t') (and_right x y e))

  same_tables_lem : SameGroup gens gens' → same_tables v t v' t' ≡ true
  unfolding same_tables
  same_tables_lem e =
      let k = one_subgroup e in
      cc (tables_equal (table_s v t) (table_s v' t') k.0, tables_equal (table_r v t) (table_r v' t') k.1)

  pub one_group : OneGroup v t v' t'
  one_group = record { by_tables = (tables_same, same_tables_lem); by_words = (by_each gens gens', same_each) }

pub same_symbols : SameSymbols
same_symbols v t v' t' ok ok' = one_group v t v' t' ok ok'

-- equal lists of generators generate one subgroup
pub equal_same : (gens gens' : List Mat) → gens ≡ gens' → SameGroup gens gens'
equal_same gens gens' e m = (λ h. rw (← e) h, λ h. rw e h)
