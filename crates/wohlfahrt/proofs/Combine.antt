-- Multiples of n as sums of multiples of n, and matrices that are equal modulo n, by reflection.
--
--   Given n r c                  what the sum c asks for: of each product a ⊙ e in it that e is a multiple of n
--   combine r e c tt h           : Multiple n (val r e), where e and c are equal as polynomials
--   combine_m r x y c₁ c₂ c₃ c₄ tt h₁ h₂ h₃ h₄    : Modulo n (val_m r x) (val_m r y), each entry's difference being such a sum
--
-- Assumes nothing.
use mathlib.Core.Path.{sym, subst}
use mathlib.Core.Bool.{Bool, true, false, ◌&&◌}
use mathlib.Core.List.{List}
use Prim.Native.Nat.{ℕ}
use lib.Dec.{T}
use lib.IntN.{ℤ, neg_ℤ}
use Rattle.matrix.specs.Matrix.{Mat}
use Rattle.matrix.proofs.Ring.{Exp, con, var, ◌⊕◌, ◌⊙◌, ⊖◌, get, val, ring, MExp, lit, val_m, entries, equal, equal_m, ring_m}
use Rattle.congruence.specs.Congruence.{Multiple, Modulo}
use Rattle.congruence.proofs.Multiple.{mult_as, mult-+, mult-*}

abbrev pub Given : ℕ → List ℤ → Exp → Type 0
Given n r (con c) = Multiple n c
Given n r (var k) = Multiple n (get r k)
Given n r (a ⊕ b) = Given n r a × Given n r b
Given n r (a ⊙ e) = Multiple n (val r e)
Given n r (⊖ e) = Multiple n (neg_ℤ (val r e))

summed : (n : ℕ) (r : List ℤ) (c : Exp) → Given n r c → Multiple n (val r c)
summed n r (con c) h = h
summed n r (var k) h = h
summed n r (a ⊕ b) h = mult-+ (summed n r a h.0) (summed n r b h.1)
summed n r (a ⊙ e) h = mult-* (val r a) h
summed n r (⊖ e) h = h

-- ---- matrices, spelt out

abbrev spelt : MExp → MExp
spelt x = let m = entries x in lit m.a m.b m.c m.d

abbrev differs : (x y c : Exp) → Bool
differs x y c = equal c (x ⊕ ⊖ y)

abbrev pub differs_m : (x y : MExp) (a b c d : Exp) → Bool
differs_m x y a b c d =
    let k = entries x in
    let l = entries y in
    equal_m x (spelt x) && (equal_m y (spelt y) && (differs k.a l.a a && (differs k.b l.b b
    && (differs k.c l.c c && differs k.d l.d d))))

both : (a b : Bool) → T (a && b) → T a × T b
both true true t = (tt, tt)
both true false t = absurd t
both false b t = absurd t

-- ---- the two laws

module _ {n : ℕ} (r : List ℤ) where
  pub combine : (e c : Exp) → T (equal c e) → Given n r c → Multiple n (val r e)
  combine e c t h = mult_as (ring r c e t) (summed n r c h)

  pub combine_m : (x y : MExp) (a b c d : Exp) → T (differs_m x y a b c d) → Given n r a → Given n r b → Given n r c → Given n r d
      → Modulo n (val_m r x) (val_m r y)
  combine_m x y a b c d t ha hb hc hd =
      let k = entries x in
      let l = entries y in
      let t₁ = both (equal_m x (spelt x)) _ t in
      let t₂ = both (equal_m y (spelt y)) _ t₁.1 in
      let t₃ = both (differs k.a l.a a) _ t₂.1 in
      let t₄ = both (differs k.b l.b b) _ t₃.1 in
      let t₅ = both (differs k.c l.c c) (differs k.d l.d d) t₄.1 in
      let m : Modulo n (val_m r (spelt x)) (val_m r (spelt y)) = record {
        a_is = combine (k.a ⊕ ⊖ l.a) a t₃.0 ha;
        b_is = combine (k.b ⊕ ⊖ l.b) b t₄.0 hb;
        c_is = combine (k.c ⊕ ⊖ l.c) c t₅.0 hc;
        d_is = combine (k.d ⊕ ⊖ l.d) d t₅.1 hd;
      } in
      subst (λ (z : Mat). Modulo n z (val_m r y)) (sym (ring_m r x (spelt x) t₁.0))
      (subst (λ (z : Mat). Modulo n (val_m r (spelt x)) z) (sym (ring_m r y (spelt y) t₂.0)) m)
