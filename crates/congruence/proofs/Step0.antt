-- The step from Γ0(n) to Γ0(n p): p matrices (1 0; n k 1) where p divides n, and one more where p is a prime that doesn't.
-- Why: m = (a b; c d) with c = t n is in the coset of (1 0; n k 1) exactly when p divides t - d k, and in that of (x y; n p) exactly when p
-- divides d. Where d has an inverse e modulo p, the one k is t e modulo p.
-- Assumes nothing.
use mathlib.Core.Path.{◌≡◌, sym, ◌∙◌, ap}
use mathlib.Core.Logic.{◌⊎◌, inl, inr}
use mathlib.Core.List.{[], ◌∷◌}
use Prim.Native.Nat.{ℕ, suc, ◌*◌, ◌≤◌, ◌<◌}
use native.Mathlib.Omega.{arith}
use native.Mathlib.Decide.{dec_lt}
use lib.IntN.{ℤ, pos, negsuc, neg_ℤ, ◌+ℤ◌, ◌-ℤ◌, ◌*ℤ◌}
use lib.Dec.{ltb}
use borrow.Author.Tests.{lt-ltb, le-ltb}
use Rattle.matrix.specs.Matrix.{Mat, mat, ◌⊗◌, adj, det}
use Rattle.matrix.proofs.Ring.{con, var, ◌⊕◌, ◌⊙◌, ⊖◌, ring}
use Rattle.basics.specs.Choice.{pick}
use Rattle.right_cosets.specs.Condition.{Unit, ◌within◌}
use Rattle.congruence.specs.Congruence.{Multiple, Gamma0}
use Rattle.right_cosets.specs.Transversal.{CosetPlace, Transversal}
use Rattle.congruence.proofs.Multiple.{mult_as, mult_self, mult-+, mult-*, mult_neg, mult_up, mult_down, residue, residue_one}
use Rattle.congruence.proofs.Prime.{Least, Inverse, not_one, multiple_or_inverse}

-- ---- the one solution of d k = t modulo p

pub record Solution (p : ℕ) (t d : ℤ) : Type 0 where
  pub is : ℕ
  pub low : is < p
  pub solves : Multiple p (t -ℤ d *ℤ pos is)
  pub only : (j : ℕ) → j < p → Multiple p (t -ℤ d *ℤ pos j) → j ≡ is

pub solve : (p : ℕ) → 0 < p → (t d : ℤ) → Inverse p d → Solution p t d
solve p some t d i =
    let e = i.by in
    let r = residue p some (t *ℤ e) in
    let k = r.is in
    record {
      is = k;
      low = r.low;
      solves = mult_as
          (ring (t ∷ d ∷ e ∷ pos k ∷ []) (⊖ var 0 ⊙ (var 1 ⊙ var 2 ⊕ con (negsuc 0)) ⊕ var 1 ⊙ (var 0 ⊙ var 2 ⊕ ⊖ var 3)) (var 0 ⊕ ⊖ (var 1 ⊙ var 3)) tt)
          (mult-+ (mult-* (neg_ℤ t) i.is) (mult-* d r.differs));
      only = λ j l h. residue_one p j k l r.low (mult_as
          (ring (t ∷ d ∷ e ∷ pos k ∷ pos j ∷ [])
          (⊖ var 4 ⊙ (var 1 ⊙ var 2 ⊕ con (negsuc 0)) ⊕ ((var 0 ⊙ var 2 ⊕ ⊖ var 3) ⊕ ⊖ var 2 ⊙ (var 0 ⊕ ⊖ (var 1 ⊙ var 4)))) (var 4 ⊕ ⊖ var 3) tt)
          (mult-+ (mult-* (neg_ℤ (pos j)) i.is) (mult-+ r.differs (mult-* (neg_ℤ e) h))));
    }

-- ---- the determinant: d a - 1 = b c, and 1 = a d - b c

det_da : (m : Mat) → Unit m → m.b *ℤ m.c ≡ m.d *ℤ m.a -ℤ pos 1
unfolding det
det_da m u = ring (m.a ∷ m.b ∷ m.c ∷ m.d ∷ []) (var 1 ⊙ var 2) (var 3 ⊙ var 0 ⊕ ⊖ (var 0 ⊙ var 3 ⊕ ⊖ (var 1 ⊙ var 2))) tt
    ∙ ap (λ (x : ℤ). m.d *ℤ m.a -ℤ x) u

-- where c is a multiple of n, a is inverse to d
pub diagonal : (n : ℕ) (m : Mat) → Unit m → Multiple n m.c → Inverse n m.d
diagonal n m u h = record { by = m.a; is = mult_as (det_da m u) (mult-* m.b h) }

det_one_is : (m : Mat) → Unit m → m.a *ℤ m.d +ℤ neg_ℤ m.b *ℤ m.c ≡ pos 1
unfolding det
det_one_is m u = ring (m.a ∷ m.b ∷ m.c ∷ m.d ∷ []) (var 0 ⊙ var 3 ⊕ ⊖ var 1 ⊙ var 2) (var 0 ⊙ var 3 ⊕ ⊖ (var 1 ⊙ var 2)) tt ∙ u

-- ---- the matrices

abbrev pub lower : ℕ → ℕ → Mat
lower n k = mat (pos 1) (pos 0) (pos (n * k)) (pos 1)

module _ (n : ℕ) where
  lower_member : (k : ℕ) → Gamma0 n within lower n k
  unfolding det
  lower_member k = record {
    unit = ring (pos (n * k) ∷ []) (con (pos 1) ⊙ con (pos 1) ⊕ ⊖ (con (pos 0) ⊙ var 0)) (con (pos 1)) tt;
    meets = record { times = pos k; is = ring (pos n ∷ pos k ∷ []) (var 0 ⊙ var 1) (var 1 ⊙ var 0) tt };
  }

  lower_is : (m : Mat) (h : Gamma0 n m) (k : ℕ) → (m ⊗ adj (lower n k)).c ≡ (h.times -ℤ m.d *ℤ pos k) *ℤ pos n
  unfolding ◌⊗◌ adj
  lower_is m h k = ap (λ (x : ℤ). x *ℤ pos 1 +ℤ m.d *ℤ neg_ℤ (pos (n * k))) h.is
      ∙ ring (h.times ∷ m.d ∷ pos n ∷ pos k ∷ []) (var 0 ⊙ var 2 ⊙ con (pos 1) ⊕ var 1 ⊙ ⊖ (var 2 ⊙ var 3)) ((var 0 ⊕ ⊖ (var 1 ⊙ var 3)) ⊙ var 2) tt

  module _ (p : ℕ) (some : 0 < n) where
    lower_in : (m : Mat) (h : Gamma0 n m) (k : ℕ) → Multiple p (h.times -ℤ m.d *ℤ pos k) → Gamma0 (n * p) (m ⊗ adj (lower n k))
    lower_in m h k l = mult_as (sym (lower_is m h k)) (mult_up n l)

    lower_out : (m : Mat) (h : Gamma0 n m) (k : ℕ) → Gamma0 (n * p) (m ⊗ adj (lower n k)) → Multiple p (h.times -ℤ m.d *ℤ pos k)
    lower_out m h k l = mult_down n some (h.times -ℤ m.d *ℤ pos k) (mult_as (lower_is m h k) l)

    -- ---- p divides n

    pub old : 0 < p → Multiple p (pos n) → Transversal (Gamma0 n) (Gamma0 (n * p)) p (lower n)
    old big divides = record {
      member = λ j h. lower_member j;
      place = λ m h.
          let t = h.meets in
          let s = solve p big t.times m.d (diagonal p m h.unit (mult_as (sym t.is) (mult-* t.times divides))) in
          record { at = s.is; low = s.low; hit = lower_in m t s.is s.solves; only = λ j l c. s.only j l (lower_out m t j c) };
    }

    -- ---- p is a prime that doesn't divide n

    module _ (prime : Least p p) (i : Inverse p (pos n)) where
      pub last : Mat
      last = mat (neg_ℤ i.is.times) (neg_ℤ i.by) (pos n) (pos p)

      abbrev pub news : ℕ → Mat
      news k = pick (ltb k p) (lower n k) last

      last_member : Gamma0 n within last
      unfolding det last
      last_member = record {
        unit = ring (i.is.times ∷ i.by ∷ pos n ∷ pos p ∷ []) (⊖ var 0 ⊙ var 3 ⊕ ⊖ (⊖ var 1 ⊙ var 2)) (var 2 ⊙ var 1 ⊕ ⊖ (var 0 ⊙ var 3)) tt
            ∙ ap (λ (x : ℤ). pos n *ℤ i.by -ℤ x) (sym i.is.is) ∙ ring (pos n ∷ i.by ∷ []) (var 0 ⊙ var 1 ⊕ ⊖ (var 0 ⊙ var 1 ⊕ con (negsuc 0)))
            (con (pos 1)) tt;
        meets = mult_self;
      }

      last_is : (m : Mat) (h : Gamma0 n m) → (m ⊗ adj last).c ≡ (h.times *ℤ pos p -ℤ m.d) *ℤ pos n
      unfolding ◌⊗◌ adj last
      last_is m h = ap (λ (x : ℤ). x *ℤ pos p +ℤ m.d *ℤ neg_ℤ (pos n)) h.is
          ∙ ring (h.times ∷ m.d ∷ pos n ∷ pos p ∷ []) (var 0 ⊙ var 2 ⊙ var 3 ⊕ var 1 ⊙ ⊖ var 2) ((var 0 ⊙ var 3 ⊕ ⊖ var 1) ⊙ var 2) tt

      last_in_lem : (m : Mat) (h : Gamma0 n m) → Multiple p m.d → Gamma0 (n * p) (m ⊗ adj last)
      last_in_lem m h l = mult_as (sym (last_is m h)) (mult_up n (mult-+ (mult-* h.times mult_self) (mult_neg l)))

      last_out : (m : Mat) (h : Gamma0 n m) → Gamma0 (n * p) (m ⊗ adj last) → Multiple p m.d
      last_out m h l = mult_as
          (ring (h.times ∷ m.d ∷ pos p ∷ []) (var 0 ⊙ var 2 ⊕ ⊖ (var 0 ⊙ var 2 ⊕ ⊖ var 1)) (var 1) tt)
          (mult-+ (mult-* h.times mult_self) (mult_neg (mult_down n some (h.times *ℤ pos p -ℤ m.d) (mult_as (last_is m h) l))))

      -- p can't divide d and t both
      not_both : (m : Mat) (h : Gamma0 n m) → Unit m → Multiple p m.d → (k : ℕ) → Multiple p (h.times -ℤ m.d *ℤ pos k) → ⊥
      not_both m h u l k c =
          let t : Multiple p h.times = mult_as
          (ring (h.times ∷ m.d ∷ pos k ∷ []) (var 0 ⊕ ⊖ (var 1 ⊙ var 2) ⊕ var 2 ⊙ var 1) (var 0) tt) (mult-+ c (mult-* (pos k) l)) in
          let below : Multiple p m.c = mult_as (ring (h.times ∷ pos n ∷ []) (var 1 ⊙ var 0) (var 0 ⊙ var 1) tt ∙ sym h.is) (mult-* (pos n) t) in
          not_one p prime.big (mult_as (det_one_is m u) (mult-+ (mult-* m.a l) (mult-* (neg_ℤ m.b) below)))

      -- what has an inverse is no multiple
      not_inverse : (d : ℤ) → Multiple p d → Inverse p d → ⊥
      not_inverse d l e = not_one p prime.big (mult_as
          (ring (d ∷ e.by ∷ []) (var 1 ⊙ var 0 ⊕ ⊖ (var 0 ⊙ var 1 ⊕ con (negsuc 0))) (con (pos 1)) tt) (mult-+ (mult-* e.by l) (mult_neg e.is)))

      news_low : (k : ℕ) → k < p → news k ≡ lower n k
      news_low k h = rw (lt-ltb k p h)

      news_last : (k : ℕ) → p ≤ k → news k ≡ last
      news_last k h = rw (le-ltb k p h)

      news_member : (k : ℕ) → Gamma0 n within news k
      news_member k = elim (dec_lt k p) [ yes h ↦ rw (news_low k h) (lower_member k) | no h ↦ rw (news_last k (omega arith)) last_member ]

      news_place : (m : Mat) → Gamma0 n within m → Multiple p m.d ⊎ Inverse p m.d → CosetPlace (Gamma0 (n * p)) (suc p) news m
      news_place m h (inl l) = record {
        at = p;
        low = omega arith;
        hit = rw (news_last p (omega arith)) (last_in_lem m h.meets l);
        only = λ j k c. elim (dec_lt j p) [
          | yes q ↦ absurd (not_both m h.meets h.unit l j (lower_out m h.meets j (rw (news_low j q) at c)))
          | no q ↦ omega arith
        ];
      }
      news_place m h (inr e) =
          let s = solve p (omega (arith, prime.big)) h.meets.times m.d e in
          record {
            at = s.is;
            low = omega (arith, s.low);
            hit = rw (news_low s.is s.low) (lower_in m h.meets s.is s.solves);
            only = λ j k c. elim (dec_lt j p) [
              | yes q ↦ s.only j q (lower_out m h.meets j (rw (news_low j q) at c))
              | no q ↦ absurd (not_inverse m.d (last_out m h.meets (rw (news_last j (omega arith)) at c)) e)
            ];
          }

      pub new : Transversal (Gamma0 n) (Gamma0 (n * p)) (suc p) news
      new = record { member = λ j h. news_member j; place = λ m h. news_place m h (multiple_or_inverse p prime m.d) }
