-- THE RULE UNDER ANY ORDER: it may be followed by points (`rule_is`), and what it gives is a symbol that generates precisely the matrices that
-- fix point 0 (`rule_precisely`).
--
-- In order: the tests at the start as tests of points; from either start (`ends_start`, `from_start`); the two theorems.
-- Assumes nothing.
use mathlib.Core.Path.{◌≡◌, refl, sym, ◌∙◌, ap}
use mathlib.Core.Logic.{◌⊎◌, inl, inr}
use mathlib.Core.Bool.{Bool, true, false, ◌&&◌}
use mathlib.Core.List.{List, [], ◌∷◌}
use Prim.Native.Nat.{ℕ, suc, ◌+◌, ◌-◌, ◌*◌, ◌<◌, ◌≤◌}
use native.Mathlib.Omega.{arith}
use native.Mathlib.Decide.{ℕ_discrete}
use lib.Dec.{eqb}
use lib.ListN.{length}
use lib.IntN.{ℤ, pos, negsuc}
use borrow.Author.Tests.{eq-eqb, ne_eqb, eqb-true, eqb-false}
use Rattle.matrix.specs.Matrix.{mat_s, mat_t, mat_q}
use Rattle.basics.specs.Choice.{pick}
use Rattle.symbol.specs.Table.{carried}
use Rattle.basics.proofs.Choice.{pick_true, pick_false, either, clash, and_left, and_right}
use Rattle.permutations.specs.Pair.{Permuting}
use Rattle.import_rule.specs.Fixed.{by_q, fixes}
use Rattle.import_rule.specs.Order.{Order}
use Rattle.import_rule.specs.Rule.{Row, Grown, finished, refused, rounds, start_rows, start_came}
use Rattle.import_rule.specs.Symbol.{symbol_table, Ruled, made, over, one_vertex, symbol_from, rule_by}
use Rattle.import_rule.specs.Inner.Placed as model
use Rattle.import_rule.specs.Inner.Placed.{Placed, pts, Grew, grow, rows_of, start_placed, symbol_by, quick_by}
use Rattle.import_rule.specs.Theorem.{Precisely}
use Rattle.import_rule.proofs.Lead.{Turning, turning}
use Rattle.import_rule.proofs.Kept.{Inv, Ends}
use Rattle.import_rule.proofs.Table.{length_rows}
use Rattle.import_rule.proofs.Finished.{finished_precisely}
use Rattle.import_rule.proofs.Start.{Kept, left0, right0, start1, start2, keep, inv_1, inv_2, kept_1, kept_2}
use Rattle.import_rule.proofs.Small.{small_table, S_point, Q_point, T_point, conjugate_point, precisely_1, precisely_2}
use Rattle.import_rule.proofs.Order.{ends_by}
use Rattle.import_rule.proofs.Sides.{opened}
use Rattle.import_rule.proofs.Rounds.{marked, ruled, rounds_are, fit_start, marked_closed}

-- two tests that pass together are one
pub same_test : (a b : Bool) → (a ≡ true → b ≡ true) → (b ≡ true → a ≡ true) → a ≡ b
same_test true b f g = sym (f refl)
same_test false true f g = g refl
same_test false false f g = refl

and_true : (a b : Bool) → a ≡ true → b ≡ true → (a && b) ≡ true
and_true a b e f = ap (λ (x : Bool). x && b) e ∙ f

module _ (σ κ : ℕ → ℕ) (n : ℕ) (T : Turning σ κ n) where
  -- ---- the tests at the start

  abbrev pub first_test : Bool
  first_test = eqb (σ 0) 0 && eqb (κ 0) 0

  abbrev pub second_test : Bool
  second_test = eqb (κ 0) 0 && eqb (κ (σ 0)) (σ 0)

  first_test_lem : (fixes σ κ mat_s && fixes σ κ mat_t) ≡ first_test
  first_test_lem = ap (λ (x : ℕ). eqb x 0 && fixes σ κ mat_t) (S_point σ κ n T) ∙ ap (λ (x : ℕ). eqb (σ 0) 0 && eqb x 0) (T_point σ κ n T)
      ∙ same_test (eqb (σ 0) 0 && eqb (σ (κ (κ 0))) 0) first_test there back
    where
      there : (eqb (σ 0) 0 && eqb (σ (κ (κ 0))) 0) ≡ true → first_test ≡ true
      there e =
          let a = eqb-true (σ 0) 0 (and_left (eqb (σ 0) 0) (eqb (σ (κ (κ 0))) 0) e) in
          let b = eqb-true (σ (κ (κ 0))) 0 (and_right (eqb (σ 0) 0) (eqb (σ (κ (κ 0))) 0) e) in
          let c : κ (κ 0) ≡ 0 = sym (T.twice (κ (κ 0))) ∙ ap σ b ∙ a in
          and_true (eqb (σ 0) 0) (eqb (κ 0) 0) (eq-eqb (σ 0) 0 a) (eq-eqb (κ 0) 0 (sym (ap κ c) ∙ T.thrice 0))

      back : first_test ≡ true → (eqb (σ 0) 0 && eqb (σ (κ (κ 0))) 0) ≡ true
      back e =
          let a = eqb-true (σ 0) 0 (and_left (eqb (σ 0) 0) (eqb (κ 0) 0) e) in
          let b = eqb-true (κ 0) 0 (and_right (eqb (σ 0) 0) (eqb (κ 0) 0) e) in
          and_true (eqb (σ 0) 0) (eqb (σ (κ (κ 0))) 0) (eq-eqb (σ 0) 0 a) (eq-eqb (σ (κ (κ 0))) 0 (ap (λ (x : ℕ). σ (κ x)) b ∙ ap σ b ∙ a))

  pub second_test_lem : (fixes σ κ mat_q && fixes σ κ (carried mat_s mat_q mat_s)) ≡ second_test
  second_test_lem =
      ap (λ (x : ℕ). eqb x 0 && fixes σ κ (carried mat_s mat_q mat_s)) (Q_point σ κ n T)
      ∙ ap (λ (x : ℕ). eqb (κ 0) 0 && eqb x 0) (conjugate_point σ κ n T)
      ∙ ap (λ (b : Bool). eqb (κ 0) 0 && b) (same_test (eqb (σ (κ (σ 0))) 0) (eqb (κ (σ 0)) (σ 0)) there back)
    where
      there : eqb (σ (κ (σ 0))) 0 ≡ true → eqb (κ (σ 0)) (σ 0) ≡ true
      there e = eq-eqb (κ (σ 0)) (σ 0) (sym (T.twice (κ (σ 0))) ∙ ap σ (eqb-true (σ (κ (σ 0))) 0 e))

      back : eqb (κ (σ 0)) (σ 0) ≡ true → eqb (σ (κ (σ 0))) 0 ≡ true
      back e = eq-eqb (σ (κ (σ 0))) 0 (ap σ (eqb-true (κ (σ 0)) (σ 0) e) ∙ T.twice 0)

  pub start_rows_lem : (b : Bool) → eqb (κ 0) 0 ≡ b → start_rows σ κ ≡ opened (start_placed σ κ)
  start_rows_lem true e = pick_true (fixes σ κ mat_q) _ _ (ap (λ (x : ℕ). eqb x 0) (Q_point σ κ n T) ∙ e) ∙ ap opened (sym (pick_true (eqb (κ 0) 0) _ _ e))
  start_rows_lem false e = pick_false (fixes σ κ mat_q) _ _ (ap (λ (x : ℕ). eqb x 0) (Q_point σ κ n T) ∙ e) ∙ ap opened (sym (pick_false (eqb (κ 0) 0) _ _ e))

  -- ---- what the rule starts with where it is not one of the small groups

  pub record Started (l : List Placed) : Type 0 where
    pub tri : Placed
    pub inv : Inv σ κ n (tri ∷ []) l
    pub kept : Kept (tri ∷ []) l

  start_low : eqb (κ 0) 0 ≡ true → start_placed σ κ ≡ start2 σ κ
  start_low e = pick_true (eqb (κ 0) 0) (start2 σ κ) (start1 σ κ) e

  start_high : eqb (κ 0) 0 ≡ false → start_placed σ κ ≡ start1 σ κ
  start_high e = pick_false (eqb (κ 0) 0) (start2 σ κ) (start1 σ κ) e

  pub started : (b : Bool) → eqb (κ 0) 0 ≡ b → second_test ≡ false → Started (start_placed σ κ)
  started true e s =
      let o = eqb-true (κ 0) 0 e in
      let h : ¬ (κ (σ 0) ≡ σ 0) = λ q. clash (and_true (eqb (κ 0) 0) (eqb (κ (σ 0)) (σ 0)) e (eq-eqb (κ (σ 0)) (σ 0) q)) s in
      rw (start_low e) (record { tri = left0 (σ 0); inv = inv_2 σ κ n T o h; kept = kept_2 σ κ n T })
  started false e s =
      let h = eqb-false (κ 0) 0 e in
      rw (start_high e) (record { tri = right0 0; inv = inv_1 σ κ n T h; kept = kept_1 σ κ n T })

  -- three sides at the start
  pub start_long : Started (start_placed σ κ) → length start_came ≡ length (start_placed σ κ)
  start_long a = let k = a.kept.count in omega arith

  module _ (order : Order) where
    -- growing from the start ends with all sides closed
    pub ends_start : second_test ≡ false → (z : List Placed) → grow σ κ order n (start_placed σ κ) ≡ model.finished z → Ends σ κ n T Kept z
    ends_start s z g =
        let a = started (eqb (κ 0) 0) refl s in
        ends_by order σ κ n T Kept (keep σ κ) n 3 start_came (a.tri ∷ []) (start_placed σ κ) z (start_long a) a.inv a.kept (omega arith) g

    -- the rows that the rule ends with are the placed sides with their marks
    from_start : second_test ≡ false → symbol_from (rounds order σ κ n 3 start_came (start_rows σ κ)) ≡ symbol_by σ κ (grow σ κ order n (start_placed σ κ))
    from_start s =
        let a = started (eqb (κ 0) 0) refl s in
        let l = start_placed σ κ in
        ap (λ (x : List Row). symbol_from (rounds order σ κ n 3 start_came x)) (start_rows_lem (eqb (κ 0) 0) refl)
        ∙ ap symbol_from (rounds_are σ κ n T order n 3 start_came (a.tri ∷ []) l (opened l) (start_long a) (fit_start σ κ n T (a.tri ∷ []) l a.inv))
        ∙ go (grow σ κ order n l) (ends_start s)
      where
        go : (g : Grew) → ((z : List Placed) → g ≡ model.finished z → Ends σ κ n T Kept z) → symbol_from (ruled σ κ n T g) ≡ symbol_by σ κ g
        go (model.finished z) f =
            let e = f z refl in
            ap (λ (x : List Row). made (length x - 1) (symbol_table x)) (marked_closed σ κ n T e.tris z e.inv e.all)
            ∙ ap (λ (x : ℕ). made (x - 1) (symbol_table (rows_of σ κ z))) (length_rows σ κ z)
        go (model.refused i) f = refl

    -- ---- THE RULE MAY BE FOLLOWED BY POINTS

    pub rule_is : rule_by order σ κ n ≡ quick_by σ κ order n
    rule_is =
        ap (λ (b : Bool). pick b (one_vertex (negsuc 1) (negsuc 2))
        (pick (fixes σ κ mat_q && fixes σ κ (carried mat_s mat_q mat_s)) (one_vertex (negsuc 2) (negsuc 2)) rest)) first_test_lem
        ∙ ap (pick first_test (one_vertex (negsuc 1) (negsuc 2)))
        (ap (λ (b : Bool). pick b (one_vertex (negsuc 2) (negsuc 2)) rest) second_test_lem ∙ go second_test refl)
      where
        rest : Ruled
        rest = symbol_from (rounds order σ κ n 3 start_came (start_rows σ κ))

        go : (b : Bool) → second_test ≡ b → pick b (one_vertex (negsuc 2) (negsuc 2)) (symbol_from (rounds order σ κ n 3 start_came (start_rows σ κ)))
            ≡ pick b (one_vertex (negsuc 2) (negsuc 2)) (symbol_by σ κ (grow σ κ order n (start_placed σ κ)))
        go true e = refl
        go false e = from_start e

    -- ---- WHAT THE RULE GIVES

    module _ (top : n ≤ 3066) where
      pub quick_precisely : (v : ℕ) (t : List ℤ) → quick_by σ κ order n ≡ made v t → Precisely σ κ v t
      quick_precisely v t e = by_first_lem first_test refl e
        where
          is_made : (v' : ℕ) (t' : List ℤ) → made v' t' ≡ made v t → Precisely σ κ v' t' → Precisely σ κ v t
          is_made v' t' q p =
              let a : v' ≡ v = cc in
              let b : t' ≡ t = cc in
              rw (← a, ← b) p

          grown : second_test ≡ false → symbol_by σ κ (grow σ κ order n (start_placed σ κ)) ≡ made v t → Precisely σ κ v t
          grown s q = by_grown (grow σ κ order n (start_placed σ κ)) (ends_start s) q
            where
              by_grown : (g : Grew) → ((z : List Placed) → g ≡ model.finished z → Ends σ κ n T Kept z) → symbol_by σ κ g ≡ made v t → Precisely σ κ v t
              by_grown (model.finished z) f q =
                  let k = f z refl in
                  let p = finished_precisely {C = k.tris}
                  (record { turning = T; top = top; inv = k.inv; all = k.all; shape = k.kept.shape; counted = k.kept.count }) in
                  is_made (length z - 1) (symbol_table (rows_of σ κ z)) q (rw (length_rows σ κ z) at p)
              by_grown (model.refused i) f q = let z : ◌≡◌ {A = ℕ} 0 1 = cc in absurd (omega arith)

          by_second_lem : first_test ≡ false → (b : Bool) → second_test ≡ b
              → pick b (one_vertex (negsuc 2) (negsuc 2)) (symbol_by σ κ (grow σ κ order n (start_placed σ κ))) ≡ made v t → Precisely σ κ v t
          by_second_lem f true s q =
              let o = eqb-true (κ 0) 0 (and_left (eqb (κ 0) 0) (eqb (κ (σ 0)) (σ 0)) s) in
              let r = eqb-true (κ (σ 0)) (σ 0) (and_right (eqb (κ 0) 0) (eqb (κ (σ 0)) (σ 0)) s) in
              is_made 1 (small_table (negsuc 2)) q (precisely_2 σ κ n T
              (λ z. clash (and_true (eqb (σ 0) 0) (eqb (κ 0) 0) (eq-eqb (σ 0) 0 z) (eq-eqb (κ 0) 0 o)) f) o r)
          by_second_lem f false s q = grown s q

          by_first_lem : (b : Bool) → first_test ≡ b → pick b (one_vertex (negsuc 1) (negsuc 2))
              (pick second_test (one_vertex (negsuc 2) (negsuc 2)) (symbol_by σ κ (grow σ κ order n (start_placed σ κ)))) ≡ made v t → Precisely σ κ v t
          by_first_lem true f q =
              is_made 1 (small_table (negsuc 1)) q (precisely_1 σ κ n T (eqb-true (σ 0) 0 (and_left (eqb (σ 0) 0) (eqb (κ 0) 0) f))
              (eqb-true (κ 0) 0 (and_right (eqb (σ 0) 0) (eqb (κ 0) 0) f)))
          by_first_lem false f q = by_second_lem f second_test refl q

-- FOR EVERY ORDER AND EVERY PAIR OF PERMUTATIONS
pub rule_precisely : (order : Order) (σ ρ : ℕ → ℕ) (n : ℕ) → Permuting σ ρ n → n ≤ 3066 → (v : ℕ) (t : List ℤ) → rule_by order σ (by_q σ ρ) n ≡ made v t
    → Precisely σ (by_q σ ρ) v t
rule_precisely order σ ρ n p top v t e =
    let T = turning σ ρ n p in
    quick_precisely σ (by_q σ ρ) n T order top v t (sym (rule_is σ (by_q σ ρ) n T order) ∙ e)
