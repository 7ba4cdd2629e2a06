-- Where a matrix of determinant 1 leads from point 0.
--
--   Turning σ κ n    σ is an involution and κ a map of order three on the points below n, which has some
--   Leads σ κ m x    the matrix m, of determinant 1, leads from point 0 to x
--
-- In order: products with letters (`S_twice`, `Q_Q_right`, `Q_P_right`); leading up to sign, along a letter, back, and after what fixes 0.
-- Assumes nothing.
use mathlib.Core.Path.{◌≡◌, refl, sym, ◌∙◌, ap}
use mathlib.Core.Logic.{◌⊎◌, inl, inr}
use mathlib.Core.List.{List, [], ◌∷◌}
use Prim.Native.Nat.{ℕ, ◌<◌}
use lib.IntN.{ℤ, pos}
use Rattle.matrix.specs.Matrix.{Mat, ◌⊗◌, 𝟙, neg, adj, det, mat_s, mat_q, mat_p, ◌≈◌}
use Rattle.matrix.specs.Words.{Letter, S, Q, P, letter, value}
use Rattle.matrix.specs.Action.{step, at, Involution, OrderThree}
use Rattle.matrix.proofs.Matrix.{⊗-assoc, ⊗-idl, ⊗-idr, ⊗-neg, ⊗-adj, det-≈, det_one, det_adj, det_𝟙, det_letter, S_S, Q_Q, Q_P}
use Rattle.matrix.proofs.Action.{at_word, at-≈, at-⊗, at_𝟙}
use Rattle.permutations.specs.Pair.{Permuting}
use Rattle.import_rule.specs.Fixed.{by_q}

pub S_twice : (m : Mat) → m ⊗ mat_s ⊗ mat_s ≈ m
S_twice m = inr (⊗-assoc m mat_s mat_s ∙ ap (λ (x : Mat). m ⊗ x) S_S ∙ ⊗-neg m 𝟙 ∙ ap neg (⊗-idr m))

pub Q_Q_right : (m : Mat) → m ⊗ mat_q ⊗ mat_q ≡ m ⊗ mat_p
Q_Q_right m = ⊗-assoc m mat_q mat_q ∙ ap (λ (x : Mat). m ⊗ x) Q_Q

pub Q_P_right : (m : Mat) → m ⊗ mat_q ⊗ mat_p ≡ m
Q_P_right m = ⊗-assoc m mat_q mat_p ∙ ap (λ (x : Mat). m ⊗ x) Q_P ∙ ⊗-idr m

pub record Turning (σ κ : ℕ → ℕ) (n : ℕ) : Type 0 where
  pub some : 0 < n
  pub twice : Involution σ
  pub thrice : OrderThree κ
  pub σ_low : (x : ℕ) → x < n → σ x < n
  pub κ_low : (x : ℕ) → x < n → κ x < n

pub turning : (σ ρ : ℕ → ℕ) (n : ℕ) → Permuting σ ρ n → Turning σ (by_q σ ρ) n
turning σ ρ n p = record {
  some = p.some;
  twice = p.twice;
  thrice = λ x. cc (p.twice (ρ (ρ (σ x))), p.twice (ρ (σ x)), p.thrice (σ x), p.twice x);
  σ_low = p.σ_low;
  κ_low = λ x h. p.σ_low _ (p.ρ_low _ (p.ρ_low _ (p.σ_low x h)));
}

pub record Leads (σ κ : ℕ → ℕ) (m : Mat) (x : ℕ) : Type 0 where
  pub unit : det m ≡ pos 1
  pub is : at σ κ 0 m ≡ x

module _ (σ κ : ℕ → ℕ) (n : ℕ) (T : Turning σ κ n) where
  pub leads_one : {m : Mat} {x y : ℕ} → Leads σ κ m x → Leads σ κ m y → x ≡ y
  leads_one p q = sym p.is ∙ q.is

  pub leads-≈ : {m l : Mat} {x : ℕ} → l ≈ m → Leads σ κ m x → Leads σ κ l x
  leads-≈ {m} {l} e p = record { unit = det-≈ e ∙ p.unit; is = at-≈ σ κ T.twice T.thrice 0 l m e ∙ p.is }

  pub leads_to : {m : Mat} {x y : ℕ} → x ≡ y → Leads σ κ m x → Leads σ κ m y
  leads_to e p = record { unit = p.unit; is = p.is ∙ e }

  pub leads_𝟙 : Leads σ κ 𝟙 0
  leads_𝟙 = record { unit = det_𝟙; is = at_𝟙 σ κ T.twice T.thrice 0 }

  at_letter : (l : Letter) (x : ℕ) → at σ κ x (letter l) ≡ step σ κ l x
  at_letter S x = ap (at σ κ x) (sym (⊗-idr mat_s)) ∙ at_word σ κ T.twice T.thrice x (S ∷ [])
  at_letter Q x = ap (at σ κ x) (sym (⊗-idr mat_q)) ∙ at_word σ κ T.twice T.thrice x (Q ∷ [])
  at_letter P x = ap (at σ κ x) (sym (⊗-idr mat_p)) ∙ at_word σ κ T.twice T.thrice x (P ∷ [])

  pub leads_step : {m : Mat} {x : ℕ} (l : Letter) → Leads σ κ m x → Leads σ κ (m ⊗ letter l) (step σ κ l x)
  leads_step {m} {x} l p = record {
    unit = det_one m (letter l) p.unit (det_letter l);
    is = at-⊗ σ κ T.twice T.thrice 0 m (letter l) p.unit (det_letter l) ∙ ap (λ (y : ℕ). at σ κ y (letter l)) p.is ∙ at_letter l x;
  }

  -- from the point of n back to 0
  pub leads_back : {m l : Mat} {x : ℕ} → Leads σ κ m x → Leads σ κ l x → Leads σ κ (m ⊗ adj l) 0
  leads_back {m} {l} {x} p q =
      let d : det (adj l) ≡ pos 1 = det_adj l ∙ q.unit in
      record {
        unit = det_one m (adj l) p.unit d;
        is = at-⊗ σ κ T.twice T.thrice 0 m (adj l) p.unit d
            ∙ ap (λ (y : ℕ). at σ κ y (adj l)) (p.is ∙ sym q.is)
            ∙ sym (at-⊗ σ κ T.twice T.thrice 0 l (adj l) q.unit d)
            ∙ ap (at σ κ 0) (⊗-adj l q.unit)
            ∙ at_𝟙 σ κ T.twice T.thrice 0;
      }

  -- what fixes 0 changes nothing on the left
  pub leads_fix : {g m : Mat} {x : ℕ} → Leads σ κ g 0 → Leads σ κ m x → Leads σ κ (g ⊗ m) x
  leads_fix {g} {m} {x} p q = record {
    unit = det_one g m p.unit q.unit;
    is = at-⊗ σ κ T.twice T.thrice 0 g m p.unit q.unit ∙ ap (λ (y : ℕ). at σ κ y m) p.is ∙ q.is;
  }
