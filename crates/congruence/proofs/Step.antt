-- The step from Γ1(n) to Γ(n): the powers (1 j; 0 1) of T, j below n. So the index of Γ(n) is `index n`.
-- Why: if a, d are 1 and c is 0 modulo n, m (1 j; 0 1)⁻¹ is the identity modulo n exactly when b - a j is 0; and -m is in the same cosets.
-- Assumes nothing.
use mathlib.Core.Logic.{inl, inr}
use mathlib.Core.List.{[], ◌∷◌}
use Prim.Native.Nat.{ℕ, ◌*◌, ◌<◌}
use lib.IntN.{pos, negsuc, neg_ℤ, ◌-ℤ◌, ◌*ℤ◌}
use Rattle.matrix.specs.Matrix.{Mat, mat, ◌⊗◌, neg, adj, det}
use Rattle.matrix.proofs.Ring.{con, var, ◌⊕◌, ◌⊙◌, ⊖◌, ring}
use Rattle.matrix.proofs.Matrix.{neg-⊗, neg_neg}
use Rattle.right_cosets.specs.Condition.{◌within◌, Condition}
use Rattle.congruence.specs.Congruence.{Multiple}
use Rattle.congruence.proofs.Signed.{Upper, SignedUpper, Trivial, SignedTrivial}
use Rattle.right_cosets.specs.Transversal.{Everything, CosetPlace, Transversal, Index}
use Rattle.congruence.specs.Index.{index1}
use Rattle.congruence.proofs.Multiple.{mult_as, mult_zero, mult-+, mult-*, mult_neg}
use Rattle.congruence.proofs.Conditions.{gamma1, gamma}
use Rattle.right_cosets.proofs.Transversal.{index_tower, everything}
use Rattle.congruence.proofs.Prime.{Inverse}
use Rattle.congruence.proofs.Step0.{solve}
use Rattle.congruence.proofs.Step1.{index1_is}

-- a place of -m is a place of m
place_neg : {C : Mat → Type 0} (c : Condition C) {n : ℕ} {rep : ℕ → Mat} (m : Mat) → CosetPlace C n rep (neg m) → CosetPlace C n rep m
place_neg {C} c {n} {rep} m p = record {
  at = p.at;
  low = p.low;
  hit = rw (neg-⊗ m (adj (rep p.at)), neg_neg (m ⊗ adj (rep p.at))) at (c.sign (neg m ⊗ adj (rep p.at)) p.hit);
  only = λ j l h. p.only j l (rw (neg-⊗ m (adj (rep j))) (c.sign (m ⊗ adj (rep j)) h));
}

abbrev power : ℕ → Mat
power j = mat (pos 1) (pos j) (pos 0) (pos 1)

power_member : (n j : ℕ) → SignedUpper n within power j
unfolding det
power_member n j = record {
  unit = ring (pos j ∷ []) (con (pos 1) ⊙ con (pos 1) ⊕ ⊖ (var 0 ⊙ con (pos 0))) (con (pos 1)) tt;
  meets = inl (record { a_is = mult_zero; c_is = mult_zero; d_is = mult_zero });
}

module _ (n : ℕ) (m : Mat) (h : Upper n m) (j : ℕ) where
  power_in : Multiple n (m.b -ℤ m.a *ℤ pos j) → Trivial n (m ⊗ adj (power j))
  unfolding ◌⊗◌ adj
  power_in k = record {
    a_is = mult_as (ring (m.a ∷ m.b ∷ []) (var 0 ⊕ con (negsuc 0)) (var 0 ⊙ con (pos 1) ⊕ var 1 ⊙ con (pos 0) ⊕ con (negsuc 0)) tt) h.a_is;
    b_is = mult_as (ring (m.a ∷ m.b ∷ pos j ∷ []) (var 1 ⊕ ⊖ (var 0 ⊙ var 2)) (var 0 ⊙ ⊖ var 2 ⊕ var 1 ⊙ con (pos 1)) tt) k;
    c_is = mult_as (ring (m.c ∷ m.d ∷ []) (var 0) (var 0 ⊙ con (pos 1) ⊕ var 1 ⊙ con (pos 0)) tt) h.c_is;
    d_is = mult_as (ring (m.c ∷ m.d ∷ pos j ∷ []) (⊖ var 2 ⊙ var 0 ⊕ (var 1 ⊕ con (negsuc 0))) (var 0 ⊙ ⊖ var 2 ⊕ var 1 ⊙ con (pos 1) ⊕ con (negsuc 0)) tt)
        (mult-+ (mult-* (neg_ℤ (pos j)) h.c_is) h.d_is);
  }

  power_out : SignedTrivial n (m ⊗ adj (power j)) → Multiple n (m.b -ℤ m.a *ℤ pos j)
  unfolding ◌⊗◌ adj neg
  power_out (inl k) = mult_as (ring (m.a ∷ m.b ∷ pos j ∷ []) (var 0 ⊙ ⊖ var 2 ⊕ var 1 ⊙ con (pos 1)) (var 1 ⊕ ⊖ (var 0 ⊙ var 2)) tt) k.b_is
  power_out (inr k) = mult_as (ring (m.a ∷ m.b ∷ pos j ∷ []) (⊖ ⊖ (var 0 ⊙ ⊖ var 2 ⊕ var 1 ⊙ con (pos 1))) (var 1 ⊕ ⊖ (var 0 ⊙ var 2)) tt)
      (mult_neg k.b_is)

module _ (n : ℕ) (some : 0 < n) where
  upper_place : (m : Mat) → Upper n m → CosetPlace (SignedTrivial n) n power m
  upper_place m h =
      let i : Inverse n m.a =
      record { by = pos 1; is = mult_as (ring (m.a ∷ []) (var 0 ⊕ con (negsuc 0)) (var 0 ⊙ con (pos 1) ⊕ con (negsuc 0)) tt) h.a_is } in
      let s = solve n some m.b m.a i in
      record { at = s.is; low = s.low; hit = inl (power_in n m h s.is s.solves); only = λ j l c. s.only j l (power_out n m h j c) }

  any_place : (m : Mat) → SignedUpper n m → CosetPlace (SignedTrivial n) n power m
  any_place m (inl h) = upper_place m h
  any_place m (inr h) = place_neg (gamma n) m (upper_place (neg m) h)

  pub step : Transversal (SignedUpper n) (SignedTrivial n) n power
  step = record { member = λ j h. power_member n j; place = λ m h. any_place m h.meets }

  pub gamma_inside : (m : Mat) → SignedTrivial n m → SignedUpper n m
  gamma_inside m (inl h) = inl (record { a_is = h.a_is; c_is = h.c_is; d_is = h.d_is })
  gamma_inside m (inr h) = inr (record { a_is = h.a_is; c_is = h.c_is; d_is = h.d_is })

  pub index_is_lem : Index Everything (SignedTrivial n) (n * index1 n)
  index_is_lem = index_tower everything (gamma1 n) (λ m h. tt) gamma_inside (index1_is n some) (record { rep = power; transversal = step })
