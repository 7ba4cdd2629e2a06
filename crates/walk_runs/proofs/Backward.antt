-- One set of tables is enough: a run of S P is S, a run backward along the round of S Q, and S.
-- In order: a run by its last step (`last_step`, `last_count`); runs of S P (`lower_run`); S Q leads no two positions to one (`forth_injective`).
-- Why: P after Q is nothing, and both ways the same number of letters is written.
-- Assumes nothing.
use mathlib.Core.Path.{◌≡◌, sym, ap, ◌∙◌}
use mathlib.Core.List.{List}
use Prim.Native.Nat.{ℕ, zero, suc, ◌+◌}
use native.Mathlib.Omega.{arith}
use lib.ListN.{length}
use lib.IntN.{ℤ}
use Rattle.matrix.specs.Words.{S, P}
use Rattle.symbol.specs.Symbol.{IsSymbol}
use Rattle.coset.specs.Positions.{step_s, turn_q, written}
use Rattle.coset.proofs.Positions.{positions}
use Rattle.walk_runs.specs.Runs.{stepped, counted, block_to, block_count}
use Rattle.walk_runs.specs.Inner.Rounds.{forth_to, forth_count}
use Rattle.walk_runs.proofs.Repeated.{stepped_add, counted_add}
use Rattle.walk_runs.proofs.Symmetry.{there_back, turn_back}

module _ {X : Type 0} (f : X → X) (c : X → ℕ) where
  pub last_step : (k : ℕ) (x : X) → stepped f (suc k) x ≡ f (stepped f k x)
  last_step k x = let z : k + 1 ≡ suc k = omega arith in ap (λ (i : ℕ). stepped f i x) (sym z) ∙ stepped_add f c k 1 x

  pub last_count : (k : ℕ) (x : X) → counted f c (suc k) x ≡ counted f c k x + c (stepped f k x)
  last_count k x =
      let z : k + 1 ≡ suc k = omega arith in
      ap (λ (i : ℕ). counted f c i x) (sym z) ∙ omega (arith, counted_add f c k 1 x)

module _ (v : ℕ) (t : List ℤ) (ok : IsSymbol v t) where
  abbrev σ : ℕ → ℕ
  σ = step_s v t

  abbrev κ : ℕ → ℕ
  κ = turn_q v

  σσ : (x : ℕ) → σ (σ x) ≡ x
  σσ x = (positions ok).polygon.involution x

  κκκ : (x : ℕ) → κ (κ (κ x)) ≡ x
  κκκ x = (positions ok).polygon.order_three x

  abbrev by_s : ℕ → ℕ
  by_s x = length (written v t S x)

  abbrev lower_to : ℕ → ℕ
  lower_to = block_to v t P

  abbrev lower_count : ℕ → ℕ
  lower_count = block_count v t P

  -- k blocks of S P from x, where k blocks of S Q lead from z to S x
  pub record Lower (k x z : ℕ) : Type 0 where
    pub at : stepped lower_to k x ≡ step_s v t z
    pub count : counted lower_to lower_count k x + length (written v t S z) ≡ length (written v t S x) + counted (forth_to v t) (forth_count v t) k z

  -- one block back
  undone : (z : ℕ) → lower_to (σ (forth_to v t z)) ≡ σ z
  unfolding block_to
  undone z = ap (λ (x : ℕ). κ (κ x)) (σσ (κ (σ z))) ∙ κκκ (σ z)

  same_count : (z : ℕ) → lower_count (σ (forth_to v t z)) + by_s z ≡ by_s (forth_to v t z) + forth_count v t z
  unfolding block_to block_count
  same_count z =
      omega (arith, there_back v t ok (κ (σ z)), ap (λ (x : ℕ). length (written v t P x)) (σσ (κ (σ z))), turn_back v t ok (σ z))

  lower_none : (x z : ℕ) → z ≡ σ x → Lower 0 x z
  lower_none x z e = record {
    at = sym (ap σ e ∙ σσ x);
    count = omega (arith, ap by_s e, there_back v t ok x);
  }

  lower_more : (k x z : ℕ) → Lower k x (forth_to v t z) → Lower (suc k) x z
  lower_more k x z i = record {
    at = last_step lower_to lower_count k x ∙ ap lower_to i.at ∙ undone z;
    count = omega (arith, last_count lower_to lower_count k x, ap lower_count i.at, i.count, same_count z);
  }

  pub lower_run : (k x z : ℕ) → stepped (forth_to v t) k z ≡ step_s v t x → Lower k x z
  lower_run zero x z e = lower_none x z e
  lower_run (suc k) x z e = lower_more k x z (lower_run k x (forth_to v t z) e)

  pub forth_injective : (x y : ℕ) → forth_to v t x ≡ forth_to v t y → x ≡ y
  unfolding block_to
  forth_injective x y e =
      let s : σ x ≡ σ y = sym (κκκ (σ x)) ∙ ap (λ (z : ℕ). κ (κ z)) e ∙ κκκ (σ y) in
      sym (σσ x) ∙ ap σ s ∙ σσ y
