-- When two bottom rows are in one right coset of Γ0: rows of which one is a multiple of the other, their greatest common divisors with N, and the rest.
-- Assumes nothing.
use mathlib.Core.Path.{◌≡◌, sym, ◌∙◌, ap, subst}
use mathlib.Core.Logic.{◌⊎◌, inl, inr}
use mathlib.Core.List.{[], ◌∷◌}
use Prim.Native.Nat.{ℕ, zero, suc, ◌+◌, ◌*◌, ◌-◌, ◌/◌, ◌%◌, ◌<◌, ◌∣◌}
use native.Mathlib.Omega.{arith}
use native.Mathlib.Nat.{div-mul_cancel, dvd_antisymm}
use lib.IntN.{ℤ, pos, negsuc, neg_ℤ, nat_abs, ◌-ℤ◌, ◌*ℤ◌}
use Rattle.matrix.specs.Matrix.{Mat, ◌⊗◌, adj, det}
use Rattle.matrix.proofs.Ring.{con, var, ◌⊕◌, ◌⊙◌, ⊖◌, ring}
use Rattle.right_cosets.specs.Condition.{Unit}
use Rattle.congruence.specs.Congruence.{Multiple, Gamma0, Gamma1}
use Rattle.congruence.proofs.Multiple.{mult_as, mult-+, mult-*, mult_neg, mult_up, mult_down, mult_part, cancel}
use Rattle.right_cosets.proofs.Transversal.{back}
use Rattle.congruence.proofs.Factor.{dvd_mult, mult_dvd}
use Rattle.congruence.proofs.Sign.{mult_mod, mod_mult}
use Rattle.congruence.specs.declared.modular.Common.{Common}
use Rattle.congruence.specs.Inner.Common.{CommonOf}
use Rattle.congruence_tables.specs.declared.residues.Residues.{Residues}
use Rattle.congruence_tables.specs.Inner.Residues.{PointOf, RowOf}

-- ---- rows of which one is a multiple of the other

-- (c' d') is u (c d) modulo n
pub record Rows (n : ℕ) (u c d c' d' : ℤ) : Type 0 where
  pub c_is : Multiple n (c' -ℤ u *ℤ c)
  pub d_is : Multiple n (d' -ℤ u *ℤ d)

module _ {n : ℕ} where
  carried : (u c c' l m : ℤ) → Multiple n (c -ℤ l) → Multiple n (c' -ℤ m) → Multiple n (m -ℤ u *ℤ l) → Multiple n (c' -ℤ u *ℤ c)
  carried u c c' l m h k e = mult_as
      (ring (u ∷ c ∷ c' ∷ l ∷ m ∷ []) (var 2 ⊕ ⊖ var 4 ⊕ (var 4 ⊕ ⊖ (var 0 ⊙ var 3) ⊕ ⊖ var 0 ⊙ (var 1 ⊕ ⊖ var 3))) (var 2 ⊕ ⊖ (var 0 ⊙ var 1)) tt)
      (mult-+ k (mult-+ e (mult-* (neg_ℤ u) h)))

  -- the bottom rows of matrices, and of their residues
  pub carried_rows : (u : ℤ) (x y : Residues) (l m : Mat) → RowOf n x l → RowOf n y m → Rows n u l.c l.d m.c m.d
      → Rows n u (pos x.c) (pos x.d) (pos y.c) (pos y.d)
  carried_rows u x y l m h k r = record {
    c_is = carried u (pos x.c) (pos y.c) l.c m.c h.c_is k.c_is r.c_is;
    d_is = carried u (pos x.d) (pos y.d) l.d m.d h.d_is k.d_is r.d_is;
  }

-- for l m⁻¹ in Γ0
abbrev pub ratio : Mat → Mat → ℤ
ratio l m = l.a *ℤ m.d -ℤ l.b *ℤ m.c

pub gamma0_rows : (n : ℕ) (l m : Mat) → Unit l → Gamma0 n (l ⊗ adj m) → Rows n (ratio l m) l.c l.d m.c m.d
unfolding ◌⊗◌ adj det
gamma0_rows n l m one h =
    let u = ratio l m in
    record {
      c_is = mult_as (
          ring (l.a ∷ l.b ∷ l.c ∷ l.d ∷ m.c ∷ m.d ∷ []) (⊖ var 0 ⊙ (var 2 ⊙ var 5 ⊕ var 3 ⊙ ⊖ var 4))
          ((var 0 ⊙ var 3 ⊕ ⊖ (var 1 ⊙ var 2)) ⊙ var 4 ⊕ ⊖ ((var 0 ⊙ var 5 ⊕ ⊖ (var 1 ⊙ var 4)) ⊙ var 2)) tt
          ∙ ap (λ (z : ℤ). z *ℤ m.c -ℤ u *ℤ l.c) one
          ∙ ring (m.c ∷ u ∷ l.c ∷ []) (con (pos 1) ⊙ var 0 ⊕ ⊖ (var 1 ⊙ var 2)) (var 0 ⊕ ⊖ (var 1 ⊙ var 2)) tt)
          (mult-* (neg_ℤ l.a) h);
      d_is = mult_as (
          ring (l.a ∷ l.b ∷ l.c ∷ l.d ∷ m.c ∷ m.d ∷ []) (⊖ var 1 ⊙ (var 2 ⊙ var 5 ⊕ var 3 ⊙ ⊖ var 4))
          ((var 0 ⊙ var 3 ⊕ ⊖ (var 1 ⊙ var 2)) ⊙ var 5 ⊕ ⊖ ((var 0 ⊙ var 5 ⊕ ⊖ (var 1 ⊙ var 4)) ⊙ var 3)) tt
          ∙ ap (λ (z : ℤ). z *ℤ m.d -ℤ u *ℤ l.d) one
          ∙ ring (m.d ∷ u ∷ l.d ∷ []) (con (pos 1) ⊙ var 0 ⊕ ⊖ (var 1 ⊙ var 2)) (var 0 ⊕ ⊖ (var 1 ⊙ var 2)) tt)
          (mult-* (neg_ℤ l.b) h);
    }

-- the bottom row of k m, where that of k is (0 u)
product_rows : (n : ℕ) (u : ℤ) (k m : Mat) → Multiple n k.c → Multiple n (k.d -ℤ u) → Rows n u m.c m.d (k ⊗ m).c (k ⊗ m).d
unfolding ◌⊗◌
product_rows n u k m h e = record {
  c_is = mult_as
      (ring (m.a ∷ k.c ∷ m.c ∷ k.d ∷ u ∷ []) (var 0 ⊙ var 1 ⊕ var 2 ⊙ (var 3 ⊕ ⊖ var 4)) (var 1 ⊙ var 0 ⊕ var 3 ⊙ var 2 ⊕ ⊖ (var 4 ⊙ var 2)) tt)
      (mult-+ (mult-* m.a h) (mult-* m.c e));
  d_is = mult_as
      (ring (m.b ∷ k.c ∷ m.d ∷ k.d ∷ u ∷ []) (var 0 ⊙ var 1 ⊕ var 2 ⊙ (var 3 ⊕ ⊖ var 4)) (var 1 ⊙ var 0 ⊕ var 3 ⊙ var 2 ⊕ ⊖ (var 4 ⊙ var 2)) tt)
      (mult-+ (mult-* m.b h) (mult-* m.d e));
}

-- for l m⁻¹ in Γ1: (l m⁻¹) m = l
pub gamma1_rows : (n : ℕ) (l m : Mat) → Unit m → Gamma1 n (l ⊗ adj m)
    → Rows n (pos 1) m.c m.d l.c l.d ⊎ Rows n (negsuc 0) m.c m.d l.c l.d
gamma1_rows n l m one (c, inl h) = inl (rw (back l m one) at (product_rows n (pos 1) (l ⊗ adj m) m c h.d_is))
gamma1_rows n l m one (c, inr h) = inr (rw (back l m one) at (product_rows n (negsuc 0) (l ⊗ adj m) m c h.d_is))

-- ---- Γ0

-- a multiple of n is one of each divisor
over_divisor : (g n : ℕ) {z : ℤ} → g ∣ n → Multiple n z → Multiple g z
over_divisor g n h k = record {
  times = k.times *ℤ pos (n / g);
  is = k.is ∙ ap (λ (x : ℕ). k.times *ℤ pos x) (sym (div-mul_cancel g h))
      ∙ ring (k.times ∷ pos (n / g) ∷ pos g ∷ []) (var 0 ⊙ (var 1 ⊙ var 2)) (var 0 ⊙ var 1 ⊙ var 2) tt;
}

-- where c is u c' modulo n, the common divisor of c' and n divides that of c and n
common_divides : (n c c' : ℕ) (r r' : Common) (u : ℤ) → CommonOf n c r → CommonOf n c' r' → Multiple n (pos c -ℤ u *ℤ pos c') → r'.g ∣ r.g
common_divides n c c' r r' u h h' e =
    mult_dvd r'.g r.g (mult_as
    (ring (pos r.s ∷ pos c ∷ pos c' ∷ u ∷ pos r.g ∷ [])
    (var 0 ⊙ (var 1 ⊕ ⊖ (var 3 ⊙ var 2)) ⊕ ((var 0 ⊙ var 3) ⊙ var 2 ⊕ ⊖ (var 0 ⊙ var 1 ⊕ ⊖ var 4))) (var 4) tt)
    (mult-+ (mult-* (pos r.s) (over_divisor r'.g n h'.divides_n e))
    (mult-+ (mult-* (pos r.s *ℤ u) (dvd_mult h'.divides_c)) (mult_neg (over_divisor r'.g n h'.divides_n h.is)))))

-- the multipliers: (u s' - s) c is a multiple of n, so (u s' - s) g is
module _ (n g s s' c c' : ℕ) (u : ℤ) (h : Multiple n (pos (s * c) -ℤ pos g)) (h' : Multiple n (pos (s' * c') -ℤ pos g))
    (e : Multiple n (pos c' -ℤ u *ℤ pos c)) where
  times_c : Multiple n ((u *ℤ pos s' -ℤ pos s) *ℤ pos c)
  times_c = mult_as
      (ring (u ∷ pos s ∷ pos s' ∷ pos c ∷ pos c' ∷ pos g ∷ [])
      (⊖ var 2 ⊙ (var 4 ⊕ ⊖ (var 0 ⊙ var 3)) ⊕ (var 2 ⊙ var 4 ⊕ ⊖ var 5 ⊕ ⊖ (var 1 ⊙ var 3 ⊕ ⊖ var 5))) ((var 0 ⊙ var 2 ⊕ ⊖ var 1) ⊙ var 3) tt)
      (mult-+ (mult-* (neg_ℤ (pos s')) e) (mult-+ h' (mult_neg h)))

  times_g : Multiple n ((u *ℤ pos s' -ℤ pos s) *ℤ pos g)
  times_g =
      let w = u *ℤ pos s' -ℤ pos s in
      mult_as
      (ring (w ∷ pos s ∷ pos c ∷ pos g ∷ []) (var 1 ⊙ (var 0 ⊙ var 2) ⊕ ⊖ var 0 ⊙ (var 1 ⊙ var 2 ⊕ ⊖ var 3)) (var 0 ⊙ var 3) tt)
      (mult-+ (mult-* (pos s) times_c) (mult-* (neg_ℤ w) h))

-- d s and d' s' modulo h = n / g
module _ (n g h : ℕ) (some : 0 < g) (whole : h * g ≡ n) where
  cut : {z : ℤ} → Multiple n (z *ℤ pos g) → Multiple h z
  cut {z} k =
      let e : n ≡ g * h = omega arith in
      mult_down {p = h} g some z (rw (← e) k)

  products_equal : (s s' d d' : ℕ) (u : ℤ) → Multiple n ((u *ℤ pos s' -ℤ pos s) *ℤ pos g) → Multiple n (pos d' -ℤ u *ℤ pos d)
      → Multiple h (pos (d * s) -ℤ pos (d' * s'))
  products_equal s s' d d' u k e = mult_as
      (ring (u ∷ pos s ∷ pos s' ∷ pos d ∷ pos d' ∷ [])
      (⊖ var 2 ⊙ (var 4 ⊕ ⊖ (var 0 ⊙ var 3)) ⊕ ⊖ var 3 ⊙ (var 0 ⊙ var 2 ⊕ ⊖ var 1)) (var 3 ⊙ var 1 ⊕ ⊖ (var 4 ⊙ var 2)) tt)
      (mult-+ (mult-* (neg_ℤ (pos s')) (mult_part h g (rw whole e))) (mult-* (neg_ℤ (pos d)) (cut {z = u *ℤ pos s' -ℤ pos s} k)))

  -- s c/g is 1 modulo h
  unit_part : (s c e : ℕ) → e * g ≡ c → Multiple n (pos (s * c) -ℤ pos g) → Multiple h (pos s *ℤ pos e -ℤ pos 1)
  unit_part s c e i k = cut (mult_as
      (ap (λ (z : ℕ). pos (s * z) -ℤ pos g) (sym i)
      ∙ ring (pos s ∷ pos e ∷ pos g ∷ []) (var 0 ⊙ (var 1 ⊙ var 2) ⊕ ⊖ var 2) ((var 0 ⊙ var 1 ⊕ ⊖ con (pos 1)) ⊙ var 2) tt) k)

  -- with e and e' for c/g and c'/g
  crossed : (s s' d d' e e' : ℕ) → Multiple h (pos s *ℤ pos e -ℤ pos 1) → Multiple h (pos s' *ℤ pos e' -ℤ pos 1) → Multiple h (pos (d * s) -ℤ pos (d' * s'))
      → Multiple h (pos e *ℤ pos d' -ℤ pos d *ℤ pos e')
  crossed s s' d d' e e' k k' q = mult_as
      (ring (pos s ∷ pos s' ∷ pos d ∷ pos d' ∷ pos e ∷ pos e' ∷ [])
      (⊖ (var 4 ⊙ var 5) ⊙ (var 2 ⊙ var 0 ⊕ ⊖ (var 3 ⊙ var 1)) ⊕ (⊖ (var 4 ⊙ var 3) ⊙ (var 1 ⊙ var 5 ⊕ ⊖ con (pos 1))
      ⊕ (var 2 ⊙ var 5) ⊙ (var 0 ⊙ var 4 ⊕ ⊖ con (pos 1))))
      (var 4 ⊙ var 3 ⊕ ⊖ (var 2 ⊙ var 5)) tt)
      (mult-+ (mult-* (neg_ℤ (pos e *ℤ pos e')) q) (mult-+ (mult-* (neg_ℤ (pos e *ℤ pos d')) k') (mult-* (pos d *ℤ pos e') k)))

  crossed_rows : (c c' d d' e e' : ℕ) → e * g ≡ c → e' * g ≡ c' → Multiple h (pos e *ℤ pos d' -ℤ pos d *ℤ pos e')
      → Multiple n (pos c *ℤ pos d' -ℤ pos d *ℤ pos c')
  crossed_rows c c' d d' e e' i i' k =
      let w : g * h ≡ n = omega arith in
      mult_as
      (ring (pos e ∷ pos e' ∷ pos d ∷ pos d' ∷ pos g ∷ [])
      ((var 0 ⊙ var 3 ⊕ ⊖ (var 2 ⊙ var 1)) ⊙ var 4) ((var 0 ⊙ var 4) ⊙ var 3 ⊕ ⊖ (var 2 ⊙ (var 1 ⊙ var 4))) tt
      ∙ ap (λ (z : ℕ). pos z *ℤ pos d' -ℤ pos d *ℤ pos (e' * g)) i ∙ ap (λ (z : ℕ). pos c *ℤ pos d' -ℤ pos d *ℤ pos z) i')
      (rw w at (mult_up g k))

part_some : (h g n : ℕ) → h * g ≡ n → 0 < n → 0 < h
part_some zero g n e l = let no : ⊥ = omega arith in absurd no
part_some (suc h) g n e l = omega arith

-- one factor of n tells the other
other_factor : (g h h' n : ℕ) → 0 < g → h * g ≡ n → h' * g ≡ n → h ≡ h'
other_factor g h h' n some e f = ap nat_abs (cancel g some (pos h) (pos h') (ap pos (e ∙ sym f)))

-- the entry c of l m⁻¹ by the bottom rows of residues
pub row_c : (n : ℕ) (x y : Residues) (l m : Mat) → RowOf n x l → RowOf n y m → Multiple n (pos x.c *ℤ pos y.d -ℤ pos x.d *ℤ pos y.c)
    → Gamma0 n (l ⊗ adj m)
unfolding ◌⊗◌ adj
row_c n x y l m h k e = mult_as
    (ring (pos x.c ∷ pos x.d ∷ pos y.c ∷ pos y.d ∷ l.c ∷ l.d ∷ m.c ∷ m.d ∷ [])
    ((var 0 ⊙ var 3 ⊕ ⊖ (var 1 ⊙ var 2)) ⊕ ((⊖ var 7 ⊙ (var 0 ⊕ ⊖ var 4) ⊕ ⊖ var 0 ⊙ (var 3 ⊕ ⊖ var 7))
    ⊕ (var 6 ⊙ (var 1 ⊕ ⊖ var 5) ⊕ var 1 ⊙ (var 2 ⊕ ⊖ var 6))))
    (var 4 ⊙ var 7 ⊕ var 5 ⊙ ⊖ var 6) tt)
    (mult-+ e (mult-+ (mult-+ (mult-* (neg_ℤ m.d) h.c_is) (mult-* (neg_ℤ (pos x.c)) k.d_is))
    (mult-+ (mult-* m.c h.d_is) (mult-* (pos x.d) k.c_is))))

module _ (n : ℕ) (some : 0 < n) (x y : Residues) (p : PointOf n x) (q : PointOf n y) where
  abbrev r : Common
  r = p.by

  abbrev r' : Common
  r' = q.by

  pub points_cross : x.a ≡ y.a → x.b ≡ y.b → Multiple n (pos x.c *ℤ pos y.d -ℤ pos x.d *ℤ pos y.c)
  points_cross ea eb =
      let g = r.g in
      let h = r.h in
      let same-h : r'.h ≡ h = sym q.a_is ∙ sym ea ∙ p.a_is in
      let h_some = part_some h g n p.common.part some in
      let whole' : r'.g * h ≡ n = ap (λ (z : ℕ). r'.g * z) (sym same-h) ∙ swap r'.h r'.g n q.common.part in
      let same-g : r'.g ≡ g = other_factor h r'.g g n h_some whole' (swap h g n p.common.part) in
      let is' : Multiple n (pos (r'.s * y.c) -ℤ pos g) = mult_as (ap (λ (z : ℕ). pos (r'.s * y.c) -ℤ pos z) same-g) q.common.is in
      let divides' : g ∣ y.c = subst (λ (z : ℕ). z ∣ y.c) same-g q.common.divides_c in
      let e = div-mul_cancel g p.common.divides_c in
      let e' = div-mul_cancel g divides' in
      let rests : x.d * r.s % h ≡ y.d * r'.s % h = sym p.b_is ∙ eb ∙ q.b_is ∙ ap (λ (z : ℕ). y.d * r'.s % z) same-h in
      crossed_rows n g h p.common.some p.common.part x.c y.c x.d y.d (x.c / g) (y.c / g) e e'
      (crossed n g h p.common.some p.common.part r.s r'.s x.d y.d (x.c / g) (y.c / g)
      (unit_part n g h p.common.some p.common.part r.s x.c (x.c / g) e p.common.is)
      (unit_part n g h p.common.some p.common.part r'.s y.c (y.c / g) e' is')
      (mod_mult h (x.d * r.s) (y.d * r'.s) rests))
    where
      swap : (h g n : ℕ) → h * g ≡ n → g * h ≡ n
      swap h g n e = omega arith

  pub points_one : (u u' : ℤ) → Rows n u (pos x.c) (pos x.d) (pos y.c) (pos y.d) → Rows n u' (pos y.c) (pos y.d) (pos x.c) (pos x.d)
      → (x.a ≡ y.a) × (x.b ≡ y.b)
  points_one u u' f b =
      let g = r.g in
      let h = r.h in
      let one = common_divides n x.c y.c r r' u' p.common q.common b.c_is in
      let other = common_divides n y.c x.c r' r u q.common p.common f.c_is in
      let same : r'.g ≡ g = dvd_antisymm one other in
      let is' : Multiple n (pos (r'.s * y.c) -ℤ pos g) = mult_as (ap (λ (z : ℕ). pos (r'.s * y.c) -ℤ pos z) same) q.common.is in
      let whole' : r'.h * g ≡ n = ap (λ (z : ℕ). r'.h * z) (sym same) ∙ q.common.part in
      let same-h : r'.h ≡ h = other_factor g r'.h h n p.common.some whole' p.common.part in
      let multipliers = times_g n g r.s r'.s x.c y.c u p.common.is is' f.c_is in
      let equal = products_equal n g h p.common.some p.common.part r.s r'.s x.d y.d u multipliers f.d_is in
      let rests = mult_mod h (x.d * r.s) (y.d * r'.s) (part_some h g n p.common.part some) equal in
      (p.a_is ∙ sym same-h ∙ sym q.a_is, p.b_is ∙ rests ∙ ap (λ (z : ℕ). y.d * r'.s % z) (sym same-h) ∙ sym q.b_is)
