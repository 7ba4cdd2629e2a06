-- The step from Γ0(n) to Γ1(n): a matrix (v b; n u) for each unit u up to sign, v an inverse of u. So the index of Γ1(n) is `index1 n`.
-- Why: m = (a b; c d) in Γ0(n) is in the coset of (v b'; n u) exactly when d is u up to sign modulo n.
-- In order: one such matrix; the units up to sign; the transversal; the index.
-- Assumes nothing.
use mathlib.Core.Path.{◌≡◌, refl, sym, ◌∙◌, ap}
use mathlib.Core.Logic.{◌⊎◌, inl, inr}
use mathlib.Core.Bool.{Bool, true, false, ◌&&◌}
use mathlib.Core.List.{List, [], ◌∷◌}
use Prim.Native.Nat.{ℕ, ◌+◌, ◌-◌, ◌≤◌, ◌<◌}
use native.Mathlib.Omega.{arith}
use native.Mathlib.Decide.{dec_le}
use lib.ListN.{length, get_or}
use lib.Dec.{leb}
use lib.IntN.{ℤ, pos, negsuc, neg_ℤ, ◌+ℤ◌, ◌-ℤ◌, ◌*ℤ◌}
use borrow.Author.Tests.{leb-true, le-leb}
use Rattle.matrix.specs.Matrix.{Mat, mat, ◌⊗◌, 𝟙, adj, det}
use Rattle.matrix.proofs.Ring.{con, var, ◌⊕◌, ◌⊙◌, ⊖◌, ring}
use Rattle.numbering.specs.Find.{find, ◌∈◌}
use Rattle.numbering.proofs.Find.{test, true_false, get_d_find, get_d_in}
use Rattle.numbering.proofs.Those.{those_once, those_low, those_true, those_in}
use Rattle.right_cosets.specs.Condition.{◌within◌}
use Rattle.congruence.specs.Congruence.{Multiple, Gamma0}
use Rattle.congruence.proofs.Signed.{SignedUpper}
use Rattle.right_cosets.specs.Transversal.{Everything, Transversal, Index}
use Rattle.basics.specs.Count.{those}
use Rattle.basics.proofs.Count.{length_those}
use Rattle.congruence.specs.Index.{is_unit, is_half_unit, index1}
use Rattle.congruence.proofs.Multiple.{mult_as, mult_self, mult-+, mult-*, mult_neg, residue}
use Rattle.congruence.proofs.Conditions.{gamma0}
use Rattle.right_cosets.proofs.Transversal.{unit_over, index_tower, everything}
use Rattle.congruence.proofs.Prime.{Inverse}
use Rattle.congruence.proofs.Step0.{diagonal}
use Rattle.congruence.proofs.Index0.{index0_is}
use Rattle.congruence.proofs.Sign.{Sign, sign_from, sign_to, sign_times, sign_join, sign_inverse, half_one, unit_inverse, inverse_unit, gamma1_by}
use Rattle.congruence.proofs.Sign.{gamma1_d, gamma1_inside}

-- ---- one matrix

-- w is in Γ0(n), and its entry a is inverse to u
record Turned (n u : ℕ) (w : Mat) : Type 0 where
  member : Gamma0 n within w
  inverse : Multiple n (pos u *ℤ w.a -ℤ pos 1)

abbrev turn : (n u : ℕ) → (is_unit n u ≡ true) ⊎ (is_unit n u ≡ false) → Mat
turn n u (inl e) = let i = unit_inverse n u e in mat i.by i.is.times (pos n) (pos u)
turn n u (inr e) = 𝟙

turned : (n u : ℕ) (x : (is_unit n u ≡ true) ⊎ (is_unit n u ≡ false)) → is_unit n u ≡ true → Turned n u (turn n u x)
unfolding det
turned n u (inl e) h =
    let i = unit_inverse n u e in
    record {
      member = record {
        unit = ring (i.by ∷ (i.is.times *ℤ pos n) ∷ pos u ∷ []) (var 0 ⊙ var 2 ⊕ ⊖ var 1) (var 2 ⊙ var 0 ⊕ ⊖ var 1) tt
            ∙ ap (λ (x : ℤ). pos u *ℤ i.by -ℤ x) (sym i.is.is) ∙ ring (pos u ∷ i.by ∷ []) (var 0 ⊙ var 1 ⊕ ⊖ (var 0 ⊙ var 1 ⊕ con (negsuc 0)))
            (con (pos 1)) tt;
        meets = mult_self;
      };
      inverse = i.is;
    }
turned n u (inr e) h = true_false h e

-- the entry d of m w⁻¹
d_over : (n : ℕ) (m w : Mat) → Gamma0 n m → Multiple n ((m ⊗ adj w).d -ℤ m.d *ℤ w.a)
unfolding ◌⊗◌ adj
d_over n m w h = mult_as (ring (m.c ∷ m.d ∷ w.b ∷ w.a ∷ []) (⊖ var 2 ⊙ var 0) (var 0 ⊙ ⊖ var 2 ⊕ var 1 ⊙ var 3 ⊕ ⊖ (var 1 ⊙ var 3)) tt)
    (mult-* (neg_ℤ w.b) h)

module _ (n u : ℕ) (w m : Mat) (t : Turned n u w) (h : Gamma0 n within m) where
  abbrev x : Mat
  x = m ⊗ adj w

  turned_in_lem : Sign n m.d (pos u) → SignedUpper n x
  turned_in_lem s = gamma1_by n x (unit_over m w h.unit t.member.unit)
      ((gamma0 n).product m (adj w) h.meets ((gamma0 n).inverse w t.member.meets))
      (sign_from x.d (m.d *ℤ w.a) (pos 1) (d_over n m w h.meets)
      (sign_to (m.d *ℤ w.a) (pos u *ℤ w.a) (pos 1) (sign_times m.d (pos u) w.a s) t.inverse))

  turned_out : SignedUpper n x → Sign n m.d (pos u)
  turned_out g =
      let da = m.d *ℤ w.a in
      let back : Multiple n (da -ℤ x.d) = mult_as (ring (x.d ∷ da ∷ []) (⊖ (var 0 ⊕ ⊖ var 1)) (var 1 ⊕ ⊖ var 0) tt) (mult_neg (d_over n m w h.meets)) in
      let s : Sign n (da *ℤ pos u) (pos 1 *ℤ pos u) = sign_times da (pos 1) (pos u) (sign_from da x.d (pos 1) back (gamma1_d n x g)) in
      let e : Multiple n (m.d -ℤ da *ℤ pos u) = mult_as
      (ring (m.d ∷ w.a ∷ pos u ∷ []) (⊖ var 0 ⊙ (var 2 ⊙ var 1 ⊕ con (negsuc 0))) (var 0 ⊕ ⊖ (var 0 ⊙ var 1 ⊙ var 2)) tt)
      (mult-* (neg_ℤ m.d) t.inverse) in
      rw (ring (pos u ∷ []) (con (pos 1) ⊙ var 0) (var 0) tt) at (sign_from m.d (da *ℤ pos u) (pos 1 *ℤ pos u) e s)

-- ---- units up to sign

abbrev units : ℕ → List ℕ
units n = those (is_half_unit n) n

pub both_true : (a b : Bool) → (a && b) ≡ true → (a ≡ true) × (b ≡ true)
both_true true b e = (refl, e)
both_true false b e = true_false e refl

-- a number up to n / 2 that is d up to sign
record Half (n : ℕ) (d : ℤ) : Type 0 where
  u : ℕ
  low : u < n
  half : u + u ≤ n
  sign : Sign n d (pos u)

half_of : (n : ℕ) → 0 < n → (d : ℤ) → Half n d
half_of n some d =
    let z = residue n some d in
    let r = z.is in
    let r-low = z.low in
    elim (dec_le (r + r) n) [
      | yes h ↦ record { u = r; low = r-low; half = h; sign = inl z.differs }
      | no h ↦ record {
        u = n - r;
        low = omega arith;
        half = omega arith;
        sign =
            let e : n ≡ (n - r) + r = omega arith in
            inr (mult_as
            (ap (λ (x : ℕ). d -ℤ pos r +ℤ pos x) e ∙ ring (d ∷ pos r ∷ pos (n - r) ∷ []) (var 0 ⊕ ⊖ var 1 ⊕ (var 2 ⊕ var 1)) (var 0 ⊕ var 2) tt)
            (mult-+ z.differs mult_self));
      }
    ]

module _ (n : ℕ) (some : 0 < n) where
  abbrev passes : ℕ → Bool
  passes u = is_unit n u && leb (u + u) n

  half_in : (u : ℕ) → u < n → u + u ≤ n → Inverse n (pos u) → u ∈ units n
  half_in u l h i = those_in passes n u l (rw (inverse_unit n u some i, le-leb (u + u) n h))

  abbrev turns : ℕ → Mat
  turns j = let u = get_or (units n) j 0 in turn n u (test (is_unit n u))

  turns_is : (j : ℕ) → j < length (units n) → Turned n (get_or (units n) j 0) (turns j)
  turns_is j h = let u = get_or (units n) j 0 in
      turned n u (test (is_unit n u)) (both_true (is_unit n u) (leb (u + u) n) (those_true passes n u (get_d_in (units n) j h))).0

  turns_only : (d : ℤ) (z : Half n d) (j : ℕ) → j < length (units n) → Sign n d (pos (get_or (units n) j 0)) → j ≡ find (units n) z.u
  turns_only d z j h s =
      let u = get_or (units n) j 0 in
      let k = get_d_in (units n) j h in
      let half = leb-true (u + u) n (both_true (is_unit n u) (leb (u + u) n) (those_true passes n u k)).1 in
      sym ((those_once passes n).place j h)
      ∙ ap (find (units n)) (half_one n u z.u (those_low passes n u k) z.low half z.half (sign_join d (pos u) (pos z.u) s z.sign))

  pub step1 : Transversal (Gamma0 n) (SignedUpper n) (length (units n)) turns
  step1 = record {
    member = λ j h. (turns_is j h).member;
    place = λ m h.
        let z = half_of n some m.d in
        let k = half_in z.u z.low z.half (sign_inverse m.d (pos z.u) z.sign (diagonal n m h.unit h.meets)) in
        let at = find (units n) z.u in
        record {
          at = at;
          low = k;
          hit = turned_in_lem n (get_or (units n) at 0) (turns at) m (turns_is at k) h (rw (get_d_find (units n) z.u k) z.sign);
          only = λ j l c. turns_only m.d z j l (turned_out n (get_or (units n) j 0) (turns j) m (turns_is j l) h c);
        };
  }

  pub index1_is : Index Everything (SignedUpper n) (index1 n)
  index1_is = rw (length_those (is_half_unit n) n) at (index_tower everything (gamma0 n) (λ m h. tt) (gamma1_inside n) (index0_is n some)
      (record { rep = turns; transversal = step1 }))
