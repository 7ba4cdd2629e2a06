-- The tests decide the conditions of the families: `decided`.
-- Assumes nothing.
use mathlib.Core.Path.{◌≡◌, refl, ◌∙◌, ap}
use mathlib.Core.Logic.{◌⊎◌, inl, inr, ◌↔◌}
use mathlib.Core.Bool.{Bool, true, false, ◌&&◌, ◌||◌}
use Prim.Native.Nat.{ℕ, ◌*◌, ◌∣◌}
use native.Mathlib.Nat.{dvd-mul_left}
use lib.IntN.{ℤ, pos, negsuc, nat_abs, ◌-ℤ◌}
use Rattle.matrix.specs.Matrix.{Mat, 𝟙, neg}
use Rattle.matrix.proofs.Integer.{abs-*}
use Rattle.numbering.proofs.Find.{true_false}
use Rattle.right_cosets.specs.Condition.{Decides}
use Rattle.congruence.specs.Congruence.{Multiple, Diagonal, Modulo, Meets, is_multiple, is_diagonal, is_modulo, meets}
use Rattle.congruence.specs.declared.Family.{Family}
use Rattle.congruence.specs.declared.Family.TheVariants as family
use Rattle.congruence.proofs.Multiple.{mult_neg}
use Rattle.congruence.proofs.Factor.{dvd_mult, divides_true, dvd_divides}

-- ---- Boolean tests

both : {A B : Type 0} (a b : Bool) → (a ≡ true) ↔ A → (b ≡ true) ↔ B → ((a && b) ≡ true) ↔ (A × B)
both true b f g = ((λ e. (f.0 refl, g.0 e)), (λ h. g.1 h.1))
both false b f g = ((λ e. true_false e refl), (λ h. f.1 h.0))

either : {A B : Type 0} (a b : Bool) → (a ≡ true) ↔ A → (b ≡ true) ↔ B → ((a || b) ≡ true) ↔ (A ⊎ B)
either true b f g = ((λ e. inl (f.0 refl)), (λ h. refl))
either {A} {B} false b f g = ((λ e. inr (g.0 e)), back)
  where
    back : A ⊎ B → b ≡ true
    back (inl h) = true_false (f.1 h) refl
    back (inr h) = g.1 h

-- ---- multiples

abs_multiple : (n : ℕ) (z : ℤ) → Multiple n (pos (nat_abs z)) → Multiple n z
abs_multiple n (pos k) h = h
abs_multiple n (negsuc k) h = mult_neg h

multiple_abs : (n : ℕ) (z : ℤ) → Multiple n z → n ∣ nat_abs z
multiple_abs n z h = let e : nat_abs z ≡ nat_abs h.times * n = ap nat_abs h.is ∙ abs-* h.times (pos n) in rw e (dvd-mul_left n (nat_abs h.times))

pub multiple : (n : ℕ) (z : ℤ) → (is_multiple n z ≡ true) ↔ Multiple n z
multiple n z = ((λ e. abs_multiple n z (dvd_mult (divides_true n (nat_abs z) e))), (λ h. dvd_divides n (nat_abs z) (multiple_abs n z h)))

-- ---- the families

module _ (n : ℕ) where
  diagonal : (m : Mat) (z : ℤ) → (is_diagonal n m z ≡ true) ↔ Diagonal n m z
  diagonal m z =
      let e = both (is_multiple n (m.a -ℤ z)) (is_multiple n (m.d -ℤ z)) (multiple n (m.a -ℤ z)) (multiple n (m.d -ℤ z)) in
      ((λ h. let k = e.0 h in record { a_is = k.0; d_is = k.1 }), (λ h. e.1 (h.a_is, h.d_is)))

  pub modulo : (l m : Mat) → (is_modulo n l m ≡ true) ↔ Modulo n l m
  modulo l m =
      let a = is_multiple n (l.a -ℤ m.a) in
      let b = is_multiple n (l.b -ℤ m.b) in
      let c = is_multiple n (l.c -ℤ m.c) in
      let e = both (a && b && c) (is_multiple n (l.d -ℤ m.d))
      (both (a && b) c (both a b (multiple n (l.a -ℤ m.a)) (multiple n (l.b -ℤ m.b))) (multiple n (l.c -ℤ m.c))) (multiple n (l.d -ℤ m.d)) in (
        (λ h. let k = e.0 h in record { a_is = k.0.0.0; b_is = k.0.0.1; c_is = k.0.1; d_is = k.1 }),
        (λ h. e.1 (((h.a_is, h.b_is), h.c_is), h.d_is)),
      )

pub decided : (f : Family) (n : ℕ) → Decides (Meets f n) (meets f n)
unfolding meets
decided family.Gamma0 n m = multiple n m.c
decided family.Gamma1 n m = both (is_multiple n m.c) (is_diagonal n m (pos 1) || is_diagonal n m (negsuc 0)) (multiple n m.c)
    (either (is_diagonal n m (pos 1)) (is_diagonal n m (negsuc 0)) (diagonal n m (pos 1)) (diagonal n m (negsuc 0)))
decided family.Gamma n m = either (is_modulo n m 𝟙) (is_modulo n m (neg 𝟙)) (modulo n m 𝟙) (modulo n m (neg 𝟙))
