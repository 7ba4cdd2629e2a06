-- WOHLFAHRT'S THEOREM for a set on which the matrices act: where some Γ(M) fixes the point o, Γ(n) acts trivially for each n from 1 on
-- of which T^n does: `wohlfahrt_acts`.
--
-- Why: go down from n M to n prime by prime. A matrix that is 1 modulo n and whose d has an inverse i modulo n p is, modulo n p, a product
-- of powers of T and L by multiples of n and conjugates of them; and d, or that of the matrix times T^n, has an inverse.
-- In order: the product; the step from n p to n; all primes.
-- Assumes nothing.
use mathlib.Core.Path.{◌≡◌, refl, sym, ◌∙◌, ap}
use mathlib.Core.Logic.{inl, inr}
use mathlib.Core.List.{[], ◌∷◌}
use Prim.Native.Nat.{ℕ, zero, suc, ◌*◌, ◌/◌, ◌≤◌, ◌<◌}
use native.Mathlib.Omega.{arith}
use native.Mathlib.Decide.{ℕ_discrete}
use native.Mathlib.Nat.{div-mul_cancel, mul-le-mul_left}
use lib.IntN.{ℤ, pos, negsuc, ◌+ℤ◌, ◌-ℤ◌, ◌*ℤ◌}
use Rattle.matrix.specs.Matrix.{Mat, ◌⊗◌, 𝟙, neg, adj}
use Rattle.matrix.specs.Action as action
use Rattle.matrix.specs.Theorems.{Acts}
use Rattle.matrix.proofs.Ring.{con, var, ◌⊕◌, ◌⊙◌, ⊖◌, ring, ◌⊛◌, adjᵉ, block}
use Rattle.matrix.proofs.Matrix.{neg_neg, det_one, det_adj, det_neg, ⊗-idr}
use Rattle.right_cosets.specs.Condition.{Unit}
use Rattle.congruence.specs.Congruence.{Multiple, Modulo, Gamma}
use Rattle.congruence.specs.Index.{least_divisor}
use Rattle.congruence.proofs.Multiple.{mult_self, mult_zero, mult_part}
use Rattle.congruence.proofs.Modulo.{mod_product, mod_neg}
use Rattle.congruence.proofs.Prime.{Least, Inverse}
use Rattle.congruence.proofs.Factor.{lowest_is, lowest_prime}
use Rattle.wohlfahrt.proofs.Combine.{combine, combine_m}
use Rattle.wohlfahrt.proofs.Powers.{upper, lower, upperᵉ, lowerᵉ, unit_upper, unit_lower}
use Rattle.wohlfahrt.proofs.Acting.{Trivially, Wide, Everywhere, Inside, Still, still-⊗, still_conj, still_upper, still_lower, same_mod, inside_all}
use Rattle.wohlfahrt.proofs.Inverting.{mult_mult, inverse_both, det_mult, one_of_two}

-- ---- the product

abbrev core : ℤ → Mat
core i = upper (pos 1) ⊗ lower (i -ℤ pos 1) ⊗ adj (upper (pos 1))

abbrev spread : (b c d i : ℤ) → Mat
spread b c d i = upper (b *ℤ i) ⊗ lower (d -ℤ pos 1) ⊗ core i ⊗ upper (pos 1 -ℤ d) ⊗ lower (c *ℤ i)

-- the certificates are in terms of a d - b c - 1 and d i - 1
spread_mod : (n : ℕ) (m : Mat) → Unit m → (i : ℤ) → Multiple n (m.d *ℤ i -ℤ pos 1) → Modulo n m (spread m.b m.c m.d i)
unfolding upper lower
spread_mod n m u i h =
    let e = det_mult n m u in
    combine_m (m.a ∷ m.b ∷ m.c ∷ m.d ∷ i ∷ []) (block 0)
    (upperᵉ (var 1 ⊙ var 4) ⊛ lowerᵉ (var 3 ⊕ con (negsuc 0)) ⊛ (upperᵉ (con (pos 1)) ⊛ lowerᵉ (var 4 ⊕ con (negsuc 0)) ⊛ adjᵉ (upperᵉ (con (pos 1))))
    ⊛ upperᵉ (con (pos 1) ⊕ ⊖ var 3) ⊛ lowerᵉ (var 2 ⊙ var 4))
    ((var 1 ⊙ var 2 ⊙ var 4 ⊙ (var 3 ⊙ var 4 ⊕ con (negsuc 0)) ⊕ ⊖ var 0 ⊕ ⊖ (var 1 ⊙ var 4) ⊕ var 2 ⊙ var 4) ⊙ (var 3 ⊙ var 4 ⊕ con (negsuc 0))
    ⊕ var 4 ⊙ (var 0 ⊙ var 3 ⊕ ⊖ (var 1 ⊙ var 2) ⊕ con (negsuc 0)))
    ((con (pos 1) ⊕ var 1 ⊙ (var 3 ⊙ var 4 ⊕ con (negsuc 0))) ⊙ (var 3 ⊙ var 4 ⊕ con (negsuc 0)))
    ((var 2 ⊙ (var 3 ⊙ var 4 ⊕ con (negsuc 0)) ⊕ con (negsuc 0)) ⊙ (var 3 ⊙ var 4 ⊕ con (negsuc 0)))
    (var 3 ⊙ (var 3 ⊙ var 4 ⊕ con (negsuc 0))) tt (h, e) h h h

module _ {X : Type 0} {σ κ : X → X} (a : Acts σ κ) where
  module _ (n : ℕ) (wide : Wide σ κ n) where
    unit_core : (i : ℤ) → Unit (core i)
    unit_core i = det_one (upper (pos 1) ⊗ lower (i -ℤ pos 1)) (adj (upper (pos 1)))
        (det_one (upper (pos 1)) (lower (i -ℤ pos 1)) (unit_upper (pos 1)) (unit_lower (i -ℤ pos 1)))
        (det_adj (upper (pos 1)) ∙ unit_upper (pos 1))

    -- a product of units that fix every point, factor by factor
    record Fixing (m : Mat) : Type 0 where
      unit : Unit m
      still : Still a m

    infixl 20 ◌and◌
    ◌and◌ : {l m : Mat} → Fixing l → Fixing m → Fixing (l ⊗ m)
    ◌and◌ {l} {m} h k = record { unit = det_one l m h.unit k.unit; still = still-⊗ a l m h.unit k.unit h.still k.still }

    fixing_upper : (s : ℤ) → Multiple n s → Fixing (upper s)
    fixing_upper s h = record { unit = unit_upper s; still = still_upper a n wide s h }

    fixing_lower : (s : ℤ) → Multiple n s → Fixing (lower s)
    fixing_lower s h = record { unit = unit_lower s; still = still_lower a n wide s h }

    fixing_core : (i : ℤ) → Multiple n (i -ℤ pos 1) → Fixing (core i)
    fixing_core i h = record {
      unit = unit_core i;
      still = still_conj a (upper (pos 1)) (lower (i -ℤ pos 1)) (unit_upper (pos 1)) (unit_lower (i -ℤ pos 1)) (still_lower a n wide (i -ℤ pos 1) h);
    }

    fixing_spread : (b c d i : ℤ) → Multiple n b → Multiple n c → Multiple n (d -ℤ pos 1) → Multiple n (i -ℤ pos 1) → Fixing (spread b c d i)
    fixing_spread b c d i hb hc hd hi =
        fixing_upper (b *ℤ i) (combine (b ∷ i ∷ []) (var 0 ⊙ var 1) (var 1 ⊙ var 0) tt hb)
        and fixing_lower (d -ℤ pos 1) hd
        and fixing_core i hi
        and fixing_upper (pos 1 -ℤ d) (combine (d ∷ []) (con (pos 1) ⊕ ⊖ var 0) (con (negsuc 0) ⊙ (var 0 ⊕ con (negsuc 0))) tt hd)
        and fixing_lower (c *ℤ i) (combine (c ∷ i ∷ []) (var 0 ⊙ var 1) (var 1 ⊙ var 0) tt hc)

    -- ---- the step

    module _ (p : ℕ) (prime : Least p p) (trivially : Trivially σ κ (n * p)) where
      with_inverse : (m : Mat) → Unit m → Modulo n m 𝟙 → Inverse p m.d → Still a m
      unfolding 𝟙
      with_inverse m u h k j =
          let one : Inverse n m.d = record {
            by = pos 1;
            is = combine (m.d ∷ []) (var 0 ⊙ con (pos 1) ⊕ con (negsuc 0)) (con (pos 1) ⊙ (var 0 ⊕ con (negsuc 0))) tt h.d_is;
          } in
          let inv = inverse_both n p m.d one k in
          let i = inv.by in
          let i-is : Multiple n (m.d *ℤ i -ℤ pos 1) = mult_part n p inv.is in
          let f = fixing_spread m.b m.c m.d i
          (combine (m.b ∷ []) (var 0) (con (pos 1) ⊙ (var 0 ⊕ ⊖ con (pos 0))) tt h.b_is)
          (combine (m.c ∷ []) (var 0) (con (pos 1) ⊙ (var 0 ⊕ ⊖ con (pos 0))) tt h.c_is)
          h.d_is
          (combine (m.d ∷ i ∷ []) (var 1 ⊕ con (negsuc 0)) (con (pos 1) ⊙ (var 0 ⊙ var 1 ⊕ con (negsuc 0)) ⊕ ⊖ var 1 ⊙ (var 0 ⊕ con (negsuc 0))) tt
          (i-is, h.d_is)) in
          same_mod a (n * p) trivially m (spread m.b m.c m.d i) u f.unit (spread_mod (n * p) m u i inv.is) j ∙ f.still j

      turned_d : (m : Mat) → m.c *ℤ pos n +ℤ m.d ≡ (m ⊗ upper (pos n)).d
      unfolding ◌⊗◌ upper
      turned_d m = ring (m.c ∷ m.d ∷ pos n ∷ []) (var 0 ⊙ var 2 ⊕ var 1) (var 0 ⊙ var 2 ⊕ var 1 ⊙ con (pos 1)) tt

      upper_one : Modulo n (upper (pos n)) 𝟙
      unfolding upper 𝟙
      upper_one = record {
        a_is = mult_zero;
        b_is = combine (pos n ∷ []) (var 0 ⊕ ⊖ con (pos 0)) (con (pos 1) ⊙ var 0) tt mult_self;
        c_is = mult_zero;
        d_is = mult_zero;
      }

      positive : (m : Mat) → Unit m → Modulo n m 𝟙 → Still a m
      unfolding 𝟙
      positive m u h j = elim (one_of_two p prime n m u h.d_is) [
        | inl i ↦ with_inverse m u h i j
        | inr i ↦
            let t = upper (pos n) in
            let i' : Inverse p (m ⊗ t).d = rw (turned_d m) at i in
            let one : Modulo n (m ⊗ t) (𝟙 ⊗ 𝟙) = mod_product h upper_one in
            let h' : Modulo n (m ⊗ t) 𝟙 = rw (⊗-idr 𝟙) at one in
            sym (wide (action.at σ κ j m)) ∙ sym (a.product j m t u (unit_upper (pos n)))
            ∙ with_inverse (m ⊗ t) (det_one m t u (unit_upper (pos n))) h' i' j
      ]

      one_prime : Trivially σ κ n
      one_prime m u (inl h) j = positive m u h j
      one_prime m u (inr h) j =
          let h' : Modulo n (neg m) 𝟙 = rw (neg_neg 𝟙) at (mod_neg h) in
          a.sign j m (neg m) (inr (sym (neg_neg m))) ∙ positive (neg m) (det_neg m ∙ u) h' j

  -- ---- all primes

  wide_more : (n k : ℕ) → Wide σ κ n → Wide σ κ (n * k)
  wide_more n k h = still_upper a n h (pos (n * k)) (record { times = pos k; is = ring (pos n ∷ pos k ∷ []) (var 0 ⊙ var 1) (var 1 ⊙ var 0) tt })

  regroup : (n r p m : ℕ) → r * p ≡ m → n * m ≡ n * r * p
  regroup n r p m e = ap (λ (x : ℕ). n * x) (sym e) ∙ omega arith

  part_some : (r p m : ℕ) → r * p ≡ m → 0 < m → 0 < r
  part_some zero p m e h = let no : ⊥ = omega arith in absurd no
  part_some (suc r) p m e h = omega arith

  all_primes : (f m n : ℕ) → m ≤ f → 0 < m → Wide σ κ n → Trivially σ κ (n * m) → Trivially σ κ n
  all_primes zero m n h some wide t = let no : ⊥ = omega arith in absurd no
  all_primes (suc f) m n h some wide t = elim (ℕ_discrete m 1) [
    | yes e ↦ let z : n * m ≡ n = rw e (omega arith) in rw z at t
    | no e ↦
        let p = least_divisor m in
        let low = lowest_is m (omega arith) in
        let r = m / p in
        let whole : r * p ≡ m = div-mul_cancel p low.divisor in
        let z : n * m ≡ n * r * p = regroup n r p m whole in
        let r_some = part_some r p m whole some in
        let two : r * 2 ≤ r * p = mul-le-mul_left r low.big in
        all_primes f r n (omega arith) (omega arith) wide (one_prime (n * r) (wide_more n r wide) p (lowest_prime low) (rw z at t))
  ]

  less : (n m : ℕ) {z : ℤ} → Multiple (n * m) z → Multiple m z
  less n m h = mult_mult (record { times = pos n; is = refl }) h

  gamma_less : (n m : ℕ) (k : Mat) → Gamma (n * m) k → Gamma m k
  gamma_less n m k (inl h) = inl (record { a_is = less n m h.a_is; b_is = less n m h.b_is; c_is = less n m h.c_is; d_is = less n m h.d_is })
  gamma_less n m k (inr h) = inr (record { a_is = less n m h.a_is; b_is = less n m h.b_is; c_is = less n m h.c_is; d_is = less n m h.d_is })

  pub wohlfahrt_acts : (o : X) → Everywhere σ κ o → (n : ℕ) → Wide σ κ n → (m : ℕ) → 0 < m → Inside σ κ m o → Trivially σ κ n
  wohlfahrt_acts o all n wide m some inside =
      let t = inside_all a m o all inside in
      all_primes m m n (omega arith) some wide (λ k u g j. t k u (gamma_less n m k g) j)
