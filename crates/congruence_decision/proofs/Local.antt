-- THE LOCAL THEOREM: maps that meet the relations modulo q = pᵏ represent the matrices modulo q: `local`.
--
-- Why: a matrix whose d is a unit has the normal form X s H u d Y t; one whose d isn't has it after one more T. Each letter T or L keeps that form, by the
-- relations; and the form of the identity moves nothing.
-- In order: a matrix and then T or L; the normal form; Y t and then x, where 1 + t is a unit (`first`); the steps; the form of every matrix; words.
-- Assumes nothing.
use mathlib.Core.Path.{◌≡◌, sym, ◌∙◌, ap, subst}
use mathlib.Core.Logic.{◌⊎◌, inl, inr}
use mathlib.Core.Bool.{true}
use mathlib.Core.List.{List, [], ◌∷◌}
use Prim.Native.Nat.{ℕ, suc, ◌^◌, ◌<◌}
use native.Mathlib.Omega.{arith}
use lib.IntN.{ℤ, pos, negsuc, neg_ℤ, ◌+ℤ◌, ◌-ℤ◌, ◌*ℤ◌}
use Rattle.matrix.specs.Matrix.{Mat, mat, ◌⊗◌, 𝟙}
use Rattle.matrix.proofs.Ring.{con, var, ◌⊕◌, ◌⊙◌, ⊖◌, ring, lit, ◌⊛◌, block, ring_m}
use Rattle.matrix.proofs.Matrix.{⊗-assoc, ⊗-idl, ⊗-idr, det_one, det_𝟙}
use Rattle.right_cosets.specs.Condition.{Unit}
use Rattle.congruence.specs.Congruence.{Multiple, Modulo}
use Rattle.congruence.specs.Index.{is_prime}
use Rattle.congruence.proofs.Multiple.{mult_zero}
use Rattle.congruence.proofs.Prime.{Least, Inverse, not_one, multiple_or_inverse}
use Rattle.wohlfahrt.proofs.Combine.{combine}
use Rattle.wohlfahrt.proofs.Powers.{upper, lower, upperᵉ, lowerᵉ, unit_upper, unit_lower}
use Rattle.wohlfahrt.proofs.Inverting.{mult_mult, det_mult}
use Rattle.congruence_decision.specs.Units.{Inverses}
use Rattle.congruence_decision.proofs.Primes.{prime_least, power_inverse, power_part, power_some}
use Rattle.congruence_decision.proofs.Words.{Step, by_t, byL, value_of, follow, Represents}
use Rattle.congruence_decision.proofs.Relations.{Powers, diagonal_by, Relations, cancel, cancel', passes, H_period, H_one}

-- ---- a matrix and then T or L

abbrev tee : Mat → Mat
tee m = mat m.a (m.a +ℤ m.b) m.c (m.c +ℤ m.d)

abbrev ell : Mat → Mat
ell m = mat (m.a +ℤ m.b) m.b (m.c +ℤ m.d) m.d

tee_is : (m : Mat) → m ⊗ upper (pos 1) ≡ tee m
unfolding upper
tee_is m = ring_m (m.a ∷ m.b ∷ m.c ∷ m.d ∷ []) (block 0 ⊛ upperᵉ (con (pos 1))) (lit (var 0) (var 0 ⊕ var 1) (var 2) (var 2 ⊕ var 3)) tt

ell_is : (m : Mat) → m ⊗ lower (pos 1) ≡ ell m
unfolding lower
ell_is m = ring_m (m.a ∷ m.b ∷ m.c ∷ m.d ∷ []) (block 0 ⊛ lowerᵉ (con (pos 1))) (lit (var 0 ⊕ var 1) (var 1) (var 2 ⊕ var 3) (var 3)) tt

unit_tee : (m : Mat) → Unit m → Unit (tee m)
unit_tee m u = rw (tee_is m) at (det_one m (upper (pos 1)) u (unit_upper (pos 1)))

unit_ell : (m : Mat) → Unit m → Unit (ell m)
unit_ell m u = rw (ell_is m) at (det_one m (lower (pos 1)) u (unit_lower (pos 1)))

module _ {P : Type 0} (q : ℕ) (some : 0 < q) (X Y : ℤ → P → P) (PX : Powers q X) (PY : Powers q Y) where
  abbrev H : ℤ → ℤ → P → P
  H u v j = diagonal_by X Y u v j

  HP : (u u' v v' : ℤ) → Multiple q (u -ℤ u') → Multiple q (v -ℤ v') → (j : P) → H u v j ≡ H u' v' j
  HP u u' v v' h k j = H_period q X Y PX PY u u' v v' h k j

  -- the normal form
  record Normal (m : Mat) (f : P → P) : Type 0 where
    s : ℤ
    u : ℤ
    t : ℤ
    unit : Inverses q u m.d
    b_is : Multiple q (s *ℤ m.d -ℤ m.b)
    c_is : Multiple q (t *ℤ m.d -ℤ m.c)
    is : (j : P) → f j ≡ Y t (H u m.d (X s j))

  normal_as : {m : Mat} {f g : P → P} → ((j : P) → g j ≡ f j) → Normal m f → Normal m g
  normal_as e n = record { s = n.s; u = n.u; t = n.t; unit = n.unit; b_is = n.b_is; c_is = n.c_is; is = λ j. e j ∙ n.is j }

  -- a is u + b t
  corner : (m : Mat) {f : P → P} (n : Normal m f) → Unit m → Multiple q (n.t *ℤ m.b +ℤ n.u -ℤ m.a)
  corner m n w =
      let u = n.u in
      let t = n.t in
      let e = det_mult q m w in
      (combine (m.a ∷ m.b ∷ m.c ∷ m.d ∷ u ∷ t ∷ []) (var 5 ⊙ var 1 ⊕ var 4 ⊕ ⊖ var 0)
      ((var 0 ⊕ ⊖ (var 1 ⊙ var 5)) ⊙ (var 4 ⊙ var 3 ⊕ con (negsuc 0))
      ⊕ (var 1 ⊙ var 4 ⊙ (var 5 ⊙ var 3 ⊕ ⊖ var 2) ⊕ ⊖ var 4 ⊙ (var 0 ⊙ var 3 ⊕ ⊖ (var 1 ⊙ var 2) ⊕ con (negsuc 0)))) tt (n.unit, (n.c_is, e)))

  module _ (p : ℕ) (rel : Relations p q X Y) where
    turns_all : (u v : ℤ) → Inverses q u v → (a : ℤ) (j : P) → X a (H u v j) ≡ H u v (X (u *ℤ u *ℤ a) j)
    turns_all u v h a j = passes q some X X PX PX (H u v) (u *ℤ u) (rel.turns u v h) a j

    -- ---- Y t and then X 1, where 1 + t is a unit

    first : (t w : ℤ) → Inverses q w (pos 1 +ℤ t) → (j : P) → X (pos 1) (Y t j) ≡ Y (t *ℤ w) (H w (pos 1 +ℤ t) (X w j))
    first t w h j =
        let v = pos 1 +ℤ t in
        let i = X (pos 1) (Y t j) in
        sym (
        ap (λ (k : P). Y (t *ℤ w) (H w v k)) (PX.period w (w *ℤ w *ℤ v)
        (combine (w ∷ t ∷ []) (var 0 ⊕ ⊖ (var 0 ⊙ var 0 ⊙ (con (pos 1) ⊕ var 1)))
        (⊖ var 0 ⊙ (var 0 ⊙ (con (pos 1) ⊕ var 1) ⊕ con (negsuc 0))) tt h) j)
        ∙ ap (Y (t *ℤ w)) (sym (turns_all w v h v j)
        ∙ cancel' q X PX v (Y (w -ℤ pos 1) (X (pos 1) (Y (v -ℤ pos 1) j)))
        ∙ ap (λ (z : ℤ). Y (w -ℤ pos 1) (X (pos 1) (Y z j))) (ring (t ∷ []) (con (pos 1) ⊕ var 0 ⊕ con (negsuc 0)) (var 0) tt))
        ∙ sym (PY.sum (w -ℤ pos 1) (t *ℤ w) i)
        ∙ PY.period (w -ℤ pos 1 +ℤ t *ℤ w) (pos 0) (combine (w ∷ t ∷ []) (var 0 ⊕ con (negsuc 0) ⊕ var 1 ⊙ var 0 ⊕ ⊖ con (pos 0))
        (con (pos 1) ⊙ (var 0 ⊙ (con (pos 1) ⊕ var 1) ⊕ con (negsuc 0))) tt h) i
        ∙ PY.none i)

    -- ---- the step of a normal form: Z stands for what is done next

    step : (Z : P → P) (s u d t s0 w v t' : ℤ) → Inverses q u d → Inverses q w v → ((j : P) → Z (Y t j) ≡ Y t' (H w v (X s0 j)))
        → (j : P) → Z (Y t (H u d (X s j))) ≡ Y t' (H (u *ℤ w) (d *ℤ v) (X (s +ℤ u *ℤ u *ℤ s0) j))
    step Z s u d t s0 w v t' h k e j =
        e (H u d (X s j)) ∙ ap (λ (i : P). Y t' (H w v i)) (turns_all u d h s0 (X s j))
        ∙ ap (Y t') (rel.products u d w v h k (X (u *ℤ u *ℤ s0) (X s j)))
        ∙ ap (λ (i : P). Y t' (H (u *ℤ w) (d *ℤ v) i)) (sym (PX.sum s (u *ℤ u *ℤ s0) j))

    normal_by : (m m' : Mat) (f : P → P) (n : Normal m f) (Z : P → P) (s0 w v t' : ℤ) → Inverses q w v
        → ((j : P) → Z (Y n.t j) ≡ Y t' (H w v (X s0 j)))
        → Multiple q (m'.d -ℤ m.d *ℤ v) → Multiple q ((n.s +ℤ n.u *ℤ n.u *ℤ s0) *ℤ m'.d -ℤ m'.b) → Multiple q (t' *ℤ m'.d -ℤ m'.c)
        → Normal m' (λ j. Z (f j))
    normal_by m m' f n Z s0 w v t' k e hd hb hc =
        let u = n.u in
        record {
          s = n.s +ℤ u *ℤ u *ℤ s0;
          u = u *ℤ w;
          t = t';
          unit = (combine (u ∷ w ∷ v ∷ m.d ∷ m'.d ∷ []) (var 0 ⊙ var 1 ⊙ var 4 ⊕ con (negsuc 0))
              (var 0 ⊙ var 1 ⊙ (var 4 ⊕ ⊖ (var 3 ⊙ var 2)) ⊕ (var 1 ⊙ var 2 ⊙ (var 0 ⊙ var 3 ⊕ con (negsuc 0)) ⊕ con (pos 1)
              ⊙ (var 1 ⊙ var 2 ⊕ con (negsuc 0)))) tt (hd, (n.unit, k)));
          b_is = hb;
          c_is = hc;
          is = λ j. ap Z (n.is j) ∙ step Z n.s u m.d n.t s0 w v t' n.unit k e j
              ∙ ap (Y t') (HP (u *ℤ w) (u *ℤ w) (m.d *ℤ v) m'.d
              (combine ((u *ℤ w) ∷ []) (var 0 ⊕ ⊖ var 0) (con (pos 1) ⊙ con (pos 0)) tt mult_zero)
              (combine (v ∷ m.d ∷ m'.d ∷ []) (var 1 ⊙ var 0 ⊕ ⊖ var 2) (con (negsuc 0) ⊙ (var 2 ⊕ ⊖ (var 1 ⊙ var 0))) tt hd)
              (X (n.s +ℤ u *ℤ u *ℤ s0) j));
        }

    -- 1 + t is a unit
    by_T : (m : Mat) (f : P → P) (n : Normal m f) → Unit m → Inverse q (pos 1 +ℤ n.t) → Normal (tee m) (λ j. X (pos 1) (f j))
    by_T m f n un i =
        let s = n.s in
        let u = n.u in
        let t = n.t in
        let w = i.by in
        let k : Inverses q w (pos 1 +ℤ t) = (combine (w ∷ t ∷ []) (var 0 ⊙ (con (pos 1) ⊕ var 1) ⊕ con (negsuc 0))
        (con (pos 1) ⊙ ((con (pos 1) ⊕ var 1) ⊙ var 0 ⊕ con (negsuc 0))) tt i.is) in
        normal_by m (tee m) f n (X (pos 1)) w w (pos 1 +ℤ t) (t *ℤ w) k (first t w k)
        (combine (m.c ∷ m.d ∷ t ∷ []) (var 0 ⊕ var 1 ⊕ ⊖ (var 1 ⊙ (con (pos 1) ⊕ var 2))) (con (negsuc 0) ⊙ (var 2 ⊙ var 1 ⊕ ⊖ var 0)) tt
        n.c_is)
        (combine (m.a ∷ m.b ∷ m.c ∷ m.d ∷ s ∷ u ∷ t ∷ w ∷ []) ((var 4 ⊕ var 5 ⊙ var 5 ⊙ var 7) ⊙ (var 2 ⊕ var 3) ⊕ ⊖ (var 0 ⊕ var 1))
        (con (pos 1) ⊙ (var 6 ⊙ var 1 ⊕ var 5 ⊕ ⊖ var 0) ⊕ ((con (pos 1) ⊕ var 6) ⊙ (var 4 ⊙ var 3 ⊕ ⊖ var 1)
        ⊕ ((⊖ var 4 ⊕ ⊖ (var 5 ⊙ var 5 ⊙ var 7)) ⊙ (var 6 ⊙ var 3 ⊕ ⊖ var 2)
        ⊕ (var 5 ⊙ var 7 ⊙ (con (pos 1) ⊕ var 6) ⊙ (var 5 ⊙ var 3 ⊕ con (negsuc 0)) ⊕ var 5
        ⊙ (var 7 ⊙ (con (pos 1) ⊕ var 6) ⊕ con (negsuc 0)))))) tt (corner m n un, (n.b_is, (n.c_is, (n.unit, k)))))
        (combine (m.c ∷ m.d ∷ t ∷ w ∷ []) (var 2 ⊙ var 3 ⊙ (var 0 ⊕ var 1) ⊕ ⊖ var 0)
        (var 2 ⊙ var 1 ⊙ (var 3 ⊙ (con (pos 1) ⊕ var 2) ⊕ con (negsuc 0)) ⊕ (con (pos 1) ⊕ ⊖ (var 2 ⊙ var 3)) ⊙ (var 2 ⊙ var 1 ⊕ ⊖ var 0)) tt
        (k, n.c_is))

    module _ (prime : Least p p) (part : Multiple p (pos q)) (lift : (z : ℤ) → Inverse p z → Inverse q z) where
      -- p divides 1 + t
      by_TT : (m : Mat) (f : P → P) (n : Normal m f) → Unit m → Multiple p (pos 1 +ℤ n.t) → Normal (tee (tee m)) (λ j. X (pos 1) (X (pos 1) (f j)))
      by_TT m f n un h =
          let s = n.s in
          let u = n.u in
          let t = n.t in
          let i = lift (pos 1 +ℤ pos 2 *ℤ t) (record {
            by = negsuc 0;
            is = (combine (t ∷ []) ((con (pos 1) ⊕ con (pos 2) ⊙ var 0) ⊙ con (negsuc 0) ⊕ con (negsuc 0))
                (con (negsuc 1) ⊙ (con (pos 1) ⊕ var 0)) tt h);
          }) in
          let w = i.by in
          let k : Inverses q w (pos 1 +ℤ pos 2 *ℤ t) = (combine (w ∷ t ∷ []) (var 0 ⊙ (con (pos 1) ⊕ con (pos 2) ⊙ var 1) ⊕ con (negsuc 0))
          (con (pos 1) ⊙ ((con (pos 1) ⊕ con (pos 2) ⊙ var 1) ⊙ var 0 ⊕ con (negsuc 0))) tt i.is) in
          normal_as (λ j. sym (PX.sum (pos 1) (pos 1) (f j))) (
          normal_by m (tee (tee m)) f n (X (pos 2)) (pos 2 *ℤ w) w (pos 1 +ℤ pos 2 *ℤ t) (t *ℤ w) k (rel.twice t w h k)
          (combine (m.c ∷ m.d ∷ t ∷ []) (var 0 ⊕ (var 0 ⊕ var 1) ⊕ ⊖ (var 1 ⊙ (con (pos 1) ⊕ con (pos 2) ⊙ var 2)))
          (con (negsuc 1) ⊙ (var 2 ⊙ var 1 ⊕ ⊖ var 0)) tt n.c_is)
          (combine (m.a ∷ m.b ∷ m.c ∷ m.d ∷ s ∷ u ∷ t ∷ w ∷ [])
          ((var 4 ⊕ var 5 ⊙ var 5 ⊙ (con (pos 2) ⊙ var 7)) ⊙ (var 2 ⊕ (var 2 ⊕ var 3)) ⊕ ⊖ (var 0 ⊕ (var 0 ⊕ var 1)))
          (con (pos 2) ⊙ (var 6 ⊙ var 1 ⊕ var 5 ⊕ ⊖ var 0) ⊕ ((con (pos 1) ⊕ con (pos 2) ⊙ var 6) ⊙ (var 4 ⊙ var 3 ⊕ ⊖ var 1)
          ⊕ ((⊖ (con (pos 2) ⊙ var 4) ⊕ ⊖ (con (pos 4) ⊙ var 5 ⊙ var 5 ⊙ var 7)) ⊙ (var 6 ⊙ var 3 ⊕ ⊖ var 2)
          ⊕ (con (pos 2) ⊙ var 5 ⊙ var 7 ⊙ (con (pos 1) ⊕ con (pos 2) ⊙ var 6) ⊙ (var 5 ⊙ var 3 ⊕ con (negsuc 0)) ⊕ con (pos 2)
          ⊙ var 5 ⊙ (var 7 ⊙ (con (pos 1) ⊕ con (pos 2) ⊙ var 6)
          ⊕ con (negsuc 0)))))) tt (corner m n un, (n.b_is, (n.c_is, (n.unit, k)))))
          (combine (m.c ∷ m.d ∷ t ∷ w ∷ []) (var 2 ⊙ var 3 ⊙ (var 0 ⊕ (var 0 ⊕ var 1)) ⊕ ⊖ var 0)
          (var 2 ⊙ var 1 ⊙ (var 3 ⊙ (con (pos 1) ⊕ con (pos 2) ⊙ var 2) ⊕ con (negsuc 0)) ⊕ (con (pos 1) ⊕ ⊖ (con (pos 2) ⊙ var 2 ⊙ var 3))
          ⊙ (var 2 ⊙ var 1 ⊕ ⊖ var 0)) tt (k, n.c_is)))

      -- p divides d, the normal form is that of m T
      by_LT : (m : Mat) (f : P → P) (n : Normal (tee m) (λ j. X (pos 1) (f j))) → Unit m → Multiple p m.d
          → Normal (tee (ell m)) (λ j. X (pos 1) (Y (pos 1) (f j)))
      by_LT m f n un h =
          let s = n.s in
          let u = n.u in
          let t = n.t in
          let near : Multiple p (pos 1 -ℤ t) = (combine (m.c ∷ m.d ∷ u ∷ t ∷ []) (con (pos 1) ⊕ ⊖ var 3)
          (var 2 ⊙ var 1 ⊕ ((var 3 ⊕ con (negsuc 0)) ⊙ (var 2 ⊙ (var 0 ⊕ var 1) ⊕ con (negsuc 0)) ⊕ ⊖ var 2
          ⊙ (var 3 ⊙ (var 0 ⊕ var 1) ⊕ ⊖ var 0))) tt (h, (mult_mult part n.unit, mult_mult part n.c_is))) in
          let i = lift (pos 2 -ℤ t) (record {
            by = pos 1;
            is = (combine (t ∷ []) ((con (pos 2) ⊕ ⊖ var 0) ⊙ con (pos 1) ⊕ con (negsuc 0))
                (con (pos 1) ⊙ (con (pos 1) ⊕ ⊖ var 0)) tt near);
          }) in
          let w = i.by in
          let k : Inverses q w (pos 2 -ℤ t) = (combine (w ∷ t ∷ []) (var 0 ⊙ (con (pos 2) ⊕ ⊖ var 1) ⊕ con (negsuc 0))
          (con (pos 1) ⊙ ((con (pos 2) ⊕ ⊖ var 1) ⊙ var 0 ⊕ con (negsuc 0))) tt i.is) in
          normal_as (λ j. ap (λ (z : P). X (pos 1) (Y (pos 1) z)) (sym (cancel q X PX (pos 1) (f j)))) (
          normal_by (tee m) (tee (ell m)) (λ j. X (pos 1) (f j)) n (λ z. X (pos 1) (Y (pos 1) (X (negsuc 0) z))) (neg_ℤ w) w (pos 2 -ℤ t) w k
          (rel.back t w near k)
          (combine (m.c ∷ m.d ∷ t ∷ []) (var 0 ⊕ var 1 ⊕ var 1 ⊕ ⊖ ((var 0 ⊕ var 1) ⊙ (con (pos 2) ⊕ ⊖ var 2)))
          (con (pos 1) ⊙ (var 2 ⊙ (var 0 ⊕ var 1) ⊕ ⊖ var 0)) tt n.c_is)
          (combine (m.a ∷ m.b ∷ m.c ∷ m.d ∷ s ∷ u ∷ t ∷ w ∷ [])
          ((var 4 ⊕ var 5 ⊙ var 5 ⊙ ⊖ var 7) ⊙ (var 2 ⊕ var 3 ⊕ var 3) ⊕ ⊖ (var 0 ⊕ var 1 ⊕ var 1))
          (con (negsuc 0) ⊙ (var 6 ⊙ (var 0 ⊕ var 1) ⊕ var 5 ⊕ ⊖ var 0)
          ⊕ ((con (pos 2) ⊕ ⊖ var 6) ⊙ (var 4 ⊙ (var 2 ⊕ var 3) ⊕ ⊖ (var 0 ⊕ var 1))
          ⊕ ((var 4 ⊕ ⊖ (var 5 ⊙ var 5 ⊙ var 7)) ⊙ (var 6 ⊙ (var 2 ⊕ var 3) ⊕ ⊖ var 2)
          ⊕ (⊖ (var 5 ⊙ var 7 ⊙ (con (pos 2) ⊕ ⊖ var 6)) ⊙ (var 5 ⊙ (var 2 ⊕ var 3) ⊕ con (negsuc 0)) ⊕ ⊖ var 5
          ⊙ (var 7 ⊙ (con (pos 2) ⊕ ⊖ var 6) ⊕ con (negsuc 0)))))) tt (corner (tee m) n (unit_tee m un), (n.b_is, (n.c_is, (n.unit, k)))))
          (combine (m.c ∷ m.d ∷ t ∷ w ∷ []) (var 3 ⊙ (var 0 ⊕ var 1 ⊕ var 1) ⊕ ⊖ (var 0 ⊕ var 1))
          ((var 0 ⊕ var 1) ⊙ (var 3 ⊙ (con (pos 2) ⊕ ⊖ var 2) ⊕ con (negsuc 0)) ⊕ var 3 ⊙ (var 2 ⊙ (var 0 ⊕ var 1) ⊕ ⊖ var 0)) tt (k, n.c_is)))

      by_L : (m : Mat) (f : P → P) → Normal m f → Normal (ell m) (λ j. Y (pos 1) (f j))
      by_L m f n = let t = n.t in record {
        s = n.s;
        u = n.u;
        t = t +ℤ pos 1;
        unit = n.unit;
        b_is = n.b_is;
        c_is = (combine (m.c ∷ m.d ∷ t ∷ []) ((var 2 ⊕ con (pos 1)) ⊙ var 1 ⊕ ⊖ (var 0 ⊕ var 1)) (con (pos 1) ⊙ (var 2 ⊙ var 1 ⊕ ⊖ var 0)) tt
            n.c_is);
        is = λ j. ap (Y (pos 1)) (n.is j) ∙ sym (PY.sum t (pos 1) (H n.u m.d (X n.s j)));
      }

      -- ---- every matrix

      abbrev Form : Mat → (P → P) → Type 0
      Form m f = Normal m f ⊎ (Multiple p m.d × Normal (tee m) (λ j. X (pos 1) (f j)))

      form_T : (m : Mat) (f : P → P) → Unit m → Form m f → Form (tee m) (λ j. X (pos 1) (f j))
      form_T m f un (inr h) = inl h.1
      form_T m f un (inl n) = let t = n.t in elim (multiple_or_inverse p prime (pos 1 +ℤ t)) [
        | inr i ↦ inl (by_T m f n un (lift (pos 1 +ℤ t) i))
        | inl h ↦ inr (
          (combine (m.c ∷ m.d ∷ t ∷ []) (var 0 ⊕ var 1)
              (var 1 ⊙ (con (pos 1) ⊕ var 2) ⊕ con (negsuc 0) ⊙ (var 2 ⊙ var 1 ⊕ ⊖ var 0)) tt (h, mult_mult part n.c_is)),
          by_TT m f n un h,
        )
      ]

      form_L : (m : Mat) (f : P → P) → Unit m → Form m f → Form (ell m) (λ j. Y (pos 1) (f j))
      form_L m f un (inl n) = inl (by_L m f n)
      form_L m f un (inr h) = inr (h.0, by_LT m f h.1 un h.0)

      start : Form 𝟙 (λ j. j)
      unfolding 𝟙
      start = inl (record {
        s = pos 0;
        u = pos 1;
        t = pos 0;
        unit = mult_zero;
        b_is = mult_zero;
        c_is = mult_zero;
        is = λ j. sym (PY.none (H (pos 1) (pos 1) (X (pos 0) j)) ∙ H_one q X Y PX PY (X (pos 0) j) ∙ PX.none j);
      })

      finish : (m : Mat) (f : P → P) → Form m f → Modulo q m 𝟙 → (j : P) → f j ≡ j
      unfolding 𝟙
      finish m f (inr h) e j = absurd (not_one p prime.big
          (combine (m.d ∷ []) (con (pos 1)) (con (pos 1) ⊙ var 0 ⊕ con (negsuc 0) ⊙ (var 0 ⊕ con (negsuc 0))) tt (h.0, mult_mult part e.d_is)))
      finish m f (inl n) e j =
          let s = n.s in
          let u = n.u in
          let t = n.t in
          let d = m.d in
          n.is j
          ∙ PY.period t (pos 0) (combine (m.c ∷ m.d ∷ t ∷ []) (var 2 ⊕ ⊖ con (pos 0))
          (con (pos 1) ⊙ (var 2 ⊙ var 1 ⊕ ⊖ var 0) ⊕ (con (pos 1) ⊙ (var 0 ⊕ ⊖ con (pos 0)) ⊕ ⊖ var 2 ⊙ (var 1 ⊕ con (negsuc 0)))) tt
          (n.c_is, (e.c_is, e.d_is))) (H u d (X s j))
          ∙ PY.none (H u d (X s j))
          ∙ HP u (pos 1) d (pos 1) (combine (m.d ∷ u ∷ []) (var 1 ⊕ con (negsuc 0))
          (con (pos 1) ⊙ (var 1 ⊙ var 0 ⊕ con (negsuc 0)) ⊕ ⊖ var 1 ⊙ (var 0 ⊕ con (negsuc 0))) tt (n.unit, e.d_is)) e.d_is (X s j)
          ∙ H_one q X Y PX PY (X s j)
          ∙ PX.period s (pos 0) (combine (m.b ∷ m.d ∷ s ∷ []) (var 2 ⊕ ⊖ con (pos 0))
          (con (pos 1) ⊙ (var 2 ⊙ var 1 ⊕ ⊖ var 0) ⊕ (con (pos 1) ⊙ (var 0 ⊕ ⊖ con (pos 0)) ⊕ ⊖ var 2 ⊙ (var 1 ⊕ con (negsuc 0)))) tt
          (n.b_is, (e.b_is, e.d_is))) j
          ∙ PX.none j

      words : (w : List Step) (m : Mat) (f : P → P) → Unit m → Form m f → Form (m ⊗ value_of w) (λ j. follow (X (pos 1)) (Y (pos 1)) (f j) w)
      words [] m f un h = subst (λ (z : Mat). Form z f) (sym (⊗-idr m)) h
      words (by_t ∷ w) m f un h = subst (λ (z : Mat). Form z (λ j. follow (X (pos 1)) (Y (pos 1)) (X (pos 1) (f j)) w))
          (sym (sym (⊗-assoc m (upper (pos 1)) (value_of w)) ∙ ap (λ (z : Mat). z ⊗ value_of w) (tee_is m)))
          (words w (tee m) (λ j. X (pos 1) (f j)) (unit_tee m un) (form_T m f un h))
      words (byL ∷ w) m f un h = subst (λ (z : Mat). Form z (λ j. follow (X (pos 1)) (Y (pos 1)) (Y (pos 1) (f j)) w))
          (sym (sym (⊗-assoc m (lower (pos 1)) (value_of w)) ∙ ap (λ (z : Mat). z ⊗ value_of w) (ell_is m)))
          (words w (ell m) (λ j. Y (pos 1) (f j)) (unit_ell m un) (form_L m f un h))

      represents : Represents (X (pos 1)) (Y (pos 1)) q
      represents w e j = finish (value_of w) (λ j. follow (X (pos 1)) (Y (pos 1)) j w)
          (subst (λ (z : Mat). Form z (λ j. follow (X (pos 1)) (Y (pos 1)) j w)) (⊗-idl (value_of w)) (words w 𝟙 (λ j. j) det_𝟙 start)) e j

pub local : {P : Type 0} (p k : ℕ) → is_prime p ≡ true → (X Y : ℤ → P → P) → Powers (p ^ suc k) X → Powers (p ^ suc k) Y → Relations p (p ^ suc k) X Y
    → Represents (X (pos 1)) (Y (pos 1)) (p ^ suc k)
local p k h X Y PX PY rel =
    let prime = prime_least p h in
    represents (p ^ suc k) (power_some p (suc k) (omega (arith, prime.big))) X Y PX PY p rel prime (power_part p k) (power_inverse p k)
