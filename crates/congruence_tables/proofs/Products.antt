-- The products with S and R modulo n: -a is n - a modulo n (`opposite_is`), and b - a is b + (n - a) (`less_is`).
-- Assumes nothing.
use mathlib.Core.Path.{◌≡◌, sym, ap}
use mathlib.Core.List.{[], ◌∷◌}
use Prim.Native.Nat.{ℕ, ◌+◌, ◌-◌, ◌%◌, ◌≤◌, ◌<◌}
use native.Mathlib.Omega.{arith}
use native.Mathlib.Nat.{mod-lt, mod-mod}
use lib.IntN.{pos, negsuc, neg_ℤ, ◌+ℤ◌, ◌-ℤ◌, ◌*ℤ◌}
use Rattle.matrix.specs.Matrix.{◌⊗◌, mat_s, mat_t, mat_r}
use Rattle.matrix.proofs.Ring.{con, var, ◌⊕◌, ◌⊙◌, ⊖◌, ring}
use Rattle.congruence.specs.Congruence.{Multiple}
use Rattle.congruence.proofs.Multiple.{mult_as, mult_zero, mult_self, mult-+}
use Rattle.congruence.proofs.Sign.{mod_mult}
use Rattle.congruence_tables.specs.declared.residues.Residues.{Residues}
use Rattle.congruence_tables.specs.Inner.Residues.{ResiduesOf, ProductWith}

rest : (n k : ℕ) → Multiple n (pos (k % n) -ℤ pos k)
rest n k = mod_mult n (k % n) k (mod-mod k n)

-- n - a and a together
whole : (n a : ℕ) → a ≤ n → Multiple n (pos ((n - a) + a))
whole n a h = let e : (n - a) + a ≡ n = omega arith in mult_as (ap pos (sym e)) mult_self

pub opposite_is : (n a : ℕ) → a ≤ n → Multiple n (pos ((n - a) % n) -ℤ neg_ℤ (pos a))
opposite_is n a h = mult_as
    (ring (pos ((n - a) % n) ∷ pos (n - a) ∷ pos a ∷ []) (var 0 ⊕ ⊖ var 1 ⊕ (var 1 ⊕ var 2)) (var 0 ⊕ ⊖ ⊖ var 2) tt)
    (mult-+ (rest n (n - a)) (whole n a h))

pub less_is : (n a b : ℕ) → a ≤ n → Multiple n (pos ((b + (n - a)) % n) -ℤ (pos b -ℤ pos a))
less_is n a b h = mult_as
    (ring (pos ((b + (n - a)) % n) ∷ pos b ∷ pos (n - a) ∷ pos a ∷ []) (var 0 ⊕ ⊖ (var 1 ⊕ var 2) ⊕ (var 2 ⊕ var 3)) (var 0 ⊕ ⊖ (var 1 ⊕ ⊖ var 3)) tt)
    (mult-+ (rest n (b + (n - a))) (whole n a h))

-- the entries of (p q) S are q and -p, those of (p q) R are q and q - p
module _ (n p q : ℕ) (h : p < n) where
  first_is : Multiple n (pos q -ℤ (pos p *ℤ pos 0 +ℤ pos q *ℤ pos 1))
  first_is = mult_as (ring (pos p ∷ pos q ∷ []) (con (pos 0)) (var 1 ⊕ ⊖ (var 0 ⊙ con (pos 0) ⊕ var 1 ⊙ con (pos 1))) tt) mult_zero

  second_s : Multiple n (pos ((n - p) % n) -ℤ (pos p *ℤ negsuc 0 +ℤ pos q *ℤ pos 0))
  second_s = mult_as
      (ring (pos ((n - p) % n) ∷ pos p ∷ pos q ∷ []) (var 0 ⊕ ⊖ ⊖ var 1) (var 0 ⊕ ⊖ (var 1 ⊙ con (negsuc 0) ⊕ var 2 ⊙ con (pos 0))) tt)
      (opposite_is n p (omega arith))

  second_r : Multiple n (pos ((q + (n - p)) % n) -ℤ (pos p *ℤ negsuc 0 +ℤ pos q *ℤ pos 1))
  second_r = mult_as
      (ring (pos ((q + (n - p)) % n) ∷ pos p ∷ pos q ∷ []) (var 0 ⊕ ⊖ (var 2 ⊕ ⊖ var 1)) (var 0 ⊕ ⊖ (var 1 ⊙ con (negsuc 0) ⊕ var 2 ⊙ con (pos 1))) tt)
      (less_is n p q (omega arith))

abbrev pub times_s : ℕ → Residues → Residues
times_s n x = record { a = x.b; b = (n - x.a) % n; c = x.d; d = (n - x.c) % n }

abbrev pub times_r : ℕ → Residues → Residues
times_r n x = record { a = x.b; b = (x.b + (n - x.a)) % n; c = x.d; d = (x.d + (n - x.c)) % n }

module _ (n : ℕ) (x : Residues) (some : 0 < n) (low : ResiduesOf n x) where
  pub product_s : ProductWith n mat_s x (times_s n x)
  unfolding ◌⊗◌ mat_s
  product_s = record {
    low = record { a_low = low.b_low; b_low = mod-lt (n - x.a) some; c_low = low.d_low; d_low = mod-lt (n - x.c) some };
    is = record {
      a_is = first_is n x.a x.b low.a_low;
      b_is = second_s n x.a x.b low.a_low;
      c_is = first_is n x.c x.d low.c_low;
      d_is = second_s n x.c x.d low.c_low;
    };
  }

  pub product_r : ProductWith n mat_r x (times_r n x)
  unfolding ◌⊗◌ mat_s mat_t mat_r
  product_r = record {
    low = record { a_low = low.b_low; b_low = mod-lt (x.b + (n - x.a)) some; c_low = low.d_low; d_low = mod-lt (x.d + (n - x.c)) some };
    is = record {
      a_is = first_is n x.a x.b low.a_low;
      b_is = second_r n x.a x.b low.a_low;
      c_is = first_is n x.c x.d low.c_low;
      d_is = second_r n x.c x.d low.c_low;
    };
  }
