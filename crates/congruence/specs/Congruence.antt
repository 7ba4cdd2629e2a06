-- The three families: conditions on (a b; c d) modulo N, for integers of either sign. Matrices count up to sign, so
-- these are the groups that are written ±Γ1(N) and ±Γ(N) where signs count.
--
--   Multiple n z             the integer z is a multiple of n: z is 0 modulo n
--   Diagonal n m z           a and d are both z modulo n
--   Modulo n l m             the matrices l and m are equal modulo n, entry by entry
--   Gamma0 n m               c is 0 modulo n
--   Gamma1 n m               c is 0, and a and d are both 1 or both -1 modulo n
--   Gamma n m                m is the identity or its negative modulo n
--   Meets f n                the condition of the family f for n
--   is_multiple, is_diagonal, is_modulo, meets f n   the same as tests
--
-- proofs/Theorem.antt, `families`: each is a `Condition`, for every n; `tests`: the test decides it.
use Rattle.std.specs.Prelude.{◌≡◌, ◌⊎◌, Bool, ◌&&◌, ◌||◌, ℕ, ◌%◌, eqb, ℤ, pos, negsuc, nat_abs, ◌-ℤ◌, ◌*ℤ◌}
use Rattle.matrix.specs.Matrix.{Mat, 𝟙, neg}
use Rattle.congruence.specs.declared.Family.{Family}
use Rattle.congruence.specs.declared.Family.TheVariants as family

pub record Multiple (n : ℕ) (z : ℤ) : Type 0 where
  pub times : ℤ
  pub is : z ≡ times *ℤ pos n

pub record Diagonal (n : ℕ) (m : Mat) (z : ℤ) : Type 0 where
  pub a_is : Multiple n (m.a -ℤ z)
  pub d_is : Multiple n (m.d -ℤ z)

pub record Modulo (n : ℕ) (l m : Mat) : Type 0 where
  pub a_is : Multiple n (l.a -ℤ m.a)
  pub b_is : Multiple n (l.b -ℤ m.b)
  pub c_is : Multiple n (l.c -ℤ m.c)
  pub d_is : Multiple n (l.d -ℤ m.d)

abbrev pub Gamma0 : ℕ → Mat → Type 0
Gamma0 n m = Multiple n m.c

abbrev pub Gamma1 : ℕ → Mat → Type 0
Gamma1 n m = Multiple n m.c × (Diagonal n m (pos 1) ⊎ Diagonal n m (negsuc 0))

abbrev pub Gamma : ℕ → Mat → Type 0
Gamma n m = Modulo n m 𝟙 ⊎ Modulo n m (neg 𝟙)

abbrev pub Meets : Family → ℕ → Mat → Type 0
Meets family.Gamma0 n m = Gamma0 n m
Meets family.Gamma1 n m = Gamma1 n m
Meets family.Gamma n m = Gamma n m

abbrev pub is_multiple : ℕ → ℤ → Bool
is_multiple n z = eqb (nat_abs z % n) 0

abbrev pub is_diagonal : ℕ → Mat → ℤ → Bool
is_diagonal n m z = is_multiple n (m.a -ℤ z) && is_multiple n (m.d -ℤ z)

abbrev pub is_modulo : ℕ → (l m : Mat) → Bool
is_modulo n l m = is_multiple n (l.a -ℤ m.a) && is_multiple n (l.b -ℤ m.b) && is_multiple n (l.c -ℤ m.c) && is_multiple
    n (l.d -ℤ m.d)

unfoldable pub meets : Family → ℕ → Mat → Bool
meets family.Gamma0 n m = is_multiple n m.c
meets family.Gamma1 n m = is_multiple n m.c && (is_diagonal n m (pos 1) || is_diagonal n m (negsuc 0))
meets family.Gamma n m = is_modulo n m 𝟙 || is_modulo n m (neg 𝟙)
