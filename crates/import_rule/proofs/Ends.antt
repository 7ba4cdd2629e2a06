-- THE RULE ENDS, under every order: as many splits as there are points are enough, for more change nothing (by points `enough_by`, for the rounds
-- `rounds_enough`, for the rule itself `rule_ends`).
-- Assumes nothing.
use mathlib.Core.Path.{◌≡◌, refl, sym, ◌∙◌, ap}
use mathlib.Core.Logic.{◌⊎◌, inl, inr}
use mathlib.Core.Bool.{Bool, true, false, ◌&&◌}
use mathlib.Core.List.{List, [], ◌∷◌, ◌++◌}
use Prim.Native.Nat.{ℕ, zero, suc, ◌+◌, ◌*◌, ◌<◌, ◌≤◌}
use native.Mathlib.Omega.{arith}
use lib.Dec.{eqb}
use lib.ListN.{length}
use lib.IntN.{negsuc}
use Rattle.matrix.specs.Matrix.{mat_s, mat_t, mat_q}
use Rattle.symbol.specs.Table.{carried}
use Rattle.basics.specs.Choice.{pick}
use Rattle.import_rule.specs.Fixed.{by_q, fixes}
use Rattle.import_rule.specs.Side.{mediant, fits}
use Rattle.import_rule.specs.Symbol.{one_vertex, symbol_from}
use Rattle.import_rule.specs.Theorem.{RuleEnds}
use Rattle.import_rule.specs.Order.{Order, this, chosen_by}
use Rattle.import_rule.specs.Rule.{Row, came_after, rounds, start_rows, start_came}
use Rattle.import_rule.specs.Inner.Placed.{Placed, pts, Grew, refused, lower_at, upper_at, opens_at, go_on, grow_by, start_placed}
use Rattle.import_rule.proofs.Lead.{Turning, turning}
use Rattle.import_rule.proofs.Corners.{triangles}
use Rattle.import_rule.proofs.Kept.{Inv, step}
use Rattle.import_rule.proofs.Sides.{opened}
use Rattle.import_rule.proofs.Rounds.{ruled, fit_start, rounds_are}
use Rattle.import_rule.proofs.Theorem.{second_test, second_test_lem, start_rows_lem, Started, started}
use Rattle.import_rule.proofs.Order.{came_long, Rest, Cut, outcome_by, cut_by_lem}

module _ (order : Order) (σ κ : ℕ → ℕ) (n : ℕ) (T : Turning σ κ n) where
  pub enough_by : (f g k : ℕ) (came : List ℕ) (C l : List Placed) → length came ≡ length l → Inv σ κ n C l → n < 3 * length C + 3 * f → n < 3 * length C + 3 * g
      → grow_by σ κ order f k came l ≡ grow_by σ κ order g k came l
  enough_by zero g k came C l len inv a b = let z = triangles σ κ n T C inv.tops in absurd (omega arith)
  enough_by (suc f) zero k came C l len inv a b = let z = triangles σ κ n T C inv.tops in absurd (omega arith)
  enough_by (suc f) (suc g) k came C l len inv a b = go (outcome_by order σ κ came l len) (λ k came C l h i a b. enough_by f g k came C l h i a b)
    where
      go : Rest order σ κ l (chosen_by order came (opens_at σ κ (pts l) l)) ⊎ Cut order σ κ l (chosen_by order came (opens_at σ κ (pts l) l))
          → ((k : ℕ) (came : List ℕ) (C l : List Placed) → length came ≡ length l → Inv σ κ n C l → n < 3 * length C + 3 * f → n < 3 * length C + 3 * g
          → grow_by σ κ order f k came l ≡ grow_by σ κ order g k came l)
          → go_on σ κ (grow_by σ κ order f) k came l (chosen_by order came (opens_at σ κ (pts l) l))
          ≡ go_on σ κ (grow_by σ κ order g) k came l (chosen_by order came (opens_at σ κ (pts l) l))
      go (inl r) ih = ap (go_on σ κ (grow_by σ κ order f) k came l) r.is ∙ sym (ap (go_on σ κ (grow_by σ κ order g) k came l) r.is)
      go (inr r) ih =
          let i : Inv σ κ n C (r.before ++ (r.side ∷ r.after)) = rw r.was at inv in
          unfolded f
          ∙ ap (λ (x : Grew). pick (fits (mediant r.side.lo r.side.hi)) x (refused (length r.before)))
          (ih (suc (suc k)) (came_after k (length r.before) came) (r.side ∷ C) (r.before ++ (lower_at σ κ r.side ∷ upper_at σ κ r.side ∷ r.after))
          (came_long k came r.before r.side (lower_at σ κ r.side) (upper_at σ κ r.side) r.after (len ∙ ap length r.was))
          (step σ κ n T C r.before r.side r.after i r.none) (omega arith) (omega arith))
          ∙ sym (unfolded g)
        where
          unfolded : (f : ℕ) → go_on σ κ (grow_by σ κ order f) k came l (chosen_by order came (opens_at σ κ (pts l) l))
              ≡ pick (fits (mediant r.side.lo r.side.hi))
              (grow_by σ κ order f (suc (suc k)) (came_after k (length r.before) came)
              (r.before ++ (lower_at σ κ r.side ∷ upper_at σ κ r.side ∷ r.after))) (refused (length r.before))
          unfolded f =
              ap (go_on σ κ (grow_by σ κ order f) k came l) r.is
              ∙ ap (λ (x : List Placed). go_on σ κ (grow_by σ κ order f) k came x (this (length r.before))) r.was
              ∙ cut_by_lem order σ κ f k came r.before r.side r.after

  -- THE RULE ENDS: n rounds at the most have a split
  pub rounds_enough : second_test σ κ n T ≡ false → (f : ℕ) → n ≤ f
      → rounds order σ κ f 3 start_came (start_rows σ κ) ≡ rounds order σ κ n 3 start_came (start_rows σ κ)
  rounds_enough s f h =
      let a = started σ κ n T (eqb (κ 0) 0) refl s in
      let long : length start_came ≡ length (start_placed σ κ) = let k = a.kept.count in omega arith in
      by_points f a long
      ∙ ap (ruled σ κ n T) (enough_by f n 3 start_came (a.tri ∷ []) (start_placed σ κ) long a.inv (omega arith) (omega arith))
      ∙ sym (by_points n a long)
    where
      by_points : (f : ℕ) (a : Started σ κ n T (start_placed σ κ)) → length start_came ≡ length (start_placed σ κ)
          → rounds order σ κ f 3 start_came (start_rows σ κ) ≡ ruled σ κ n T (grow_by σ κ order f 3 start_came (start_placed σ κ))
      by_points f a long =
          ap (λ (x : List Row). rounds order σ κ f 3 start_came x) (start_rows_lem σ κ n T (eqb (κ 0) 0) refl)
          ∙ rounds_are σ κ n T order f 3 start_came (a.tri ∷ []) (start_placed σ κ) (opened (start_placed σ κ)) long
          (fit_start σ κ n T (a.tri ∷ []) (start_placed σ κ) a.inv)

pub rule_ends : (order : Order) → RuleEnds order
rule_ends order σ ρ n p f h =
    ap (pick (fixes σ κ mat_s && fixes σ κ mat_t) (one_vertex (negsuc 1) (negsuc 2))) (go (fixes σ κ mat_q && fixes σ κ (carried mat_s mat_q mat_s)) refl)
  where
    κ : ℕ → ℕ
    κ = by_q σ ρ

    go : (b : Bool) → (fixes σ κ mat_q && fixes σ κ (carried mat_s mat_q mat_s)) ≡ b
        → pick b (one_vertex (negsuc 2) (negsuc 2)) (symbol_from (rounds order σ κ f 3 start_came (start_rows σ κ)))
        ≡ pick b (one_vertex (negsuc 2) (negsuc 2)) (symbol_from (rounds order σ κ n 3 start_came (start_rows σ κ)))
    go true e = refl
    go false e = let T = turning σ ρ n p in ap symbol_from (rounds_enough order σ κ n T (sym (second_test_lem σ κ n T) ∙ e) f h)
