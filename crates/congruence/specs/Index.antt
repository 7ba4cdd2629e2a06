-- The index of each family as a function of N.
--
--   divides d n          whether d divides n
--   least_divisor n             the least divisor of n from 2 on, for n from 2 on
--   is_prime q           whether q is a prime: above 1, and its own least divisor from 2 on
--   is_factor n q        whether q is a prime that divides n
--   over_primes f n b    the product of f q over the primes q below b that divide n
--   index0 n             n times the product, over the primes q that divide n, of (1 + 1/q): as a whole number, n times
--                        the product of the q + 1 by that of the q, a division without a rest
--   is_inverse n u v     whether u v is 1 modulo n
--   is_unit n u           whether some v below n is inverse to u
--   phi n                how many units modulo n there are
--   half_units n         how many units modulo n there are up to sign: of u and n - u the one that isn't above n / 2 is
--                        counted
--   family_index f n     the index of the family f for n: of Γ1 the units up to sign times that of Γ0, of Γ n times
--                        that of Γ1
use Rattle.std.specs.Prelude.{ℕ, zero, suc, ◌+◌, ◌*◌, ◌/◌, ◌%◌, Bool, false, ◌&&◌, eqb, leb, ltb}
use Rattle.basics.specs.Choice.{pick}
use Rattle.basics.specs.Count.{first, count}
use Rattle.congruence.specs.declared.Family.{Family}
use Rattle.congruence.specs.declared.Family.TheVariants as family

abbrev pub divides : ℕ → ℕ → Bool
divides d n = eqb (n % d) 0

-- the least of d, d + 1, .. d + k - 1 that divides n, else d + k; a `let` is computed only where it is read, so it
-- stops at the first
unfoldable pub divisor_from : ℕ → ℕ → ℕ → ℕ
divisor_from zero d n = d
divisor_from (suc k) d n = let further = divisor_from k (suc d) n in pick (divides d n) d further

abbrev pub least_divisor : ℕ → ℕ
least_divisor n = divisor_from n 2 n

abbrev pub is_prime : ℕ → Bool
is_prime q = let own = eqb (least_divisor q) q in pick (ltb 1 q) own false

abbrev pub is_factor : ℕ → ℕ → Bool
is_factor n q = let prime = is_prime q in pick (divides q n) prime false

unfoldable pub over_primes : (ℕ → ℕ) → ℕ → ℕ → ℕ
over_primes f n zero = 1
over_primes f n (suc q) = let factor = f q in over_primes f n q * pick (is_factor n q) factor 1

abbrev pub index0 : ℕ → ℕ
index0 n = n * over_primes suc n (suc n) / over_primes (λ (q : ℕ). q) n (suc n)

abbrev pub is_inverse : ℕ → ℕ → ℕ → Bool
is_inverse n u v = eqb (u * v % n) (1 % n)

abbrev pub is_unit : ℕ → ℕ → Bool
is_unit n u = ltb (first (is_inverse n u) n) n

abbrev pub phi : ℕ → ℕ
phi n = count (is_unit n) n

abbrev pub is_half_unit : ℕ → ℕ → Bool
is_half_unit n u = is_unit n u && leb (u + u) n

abbrev pub half_units : ℕ → ℕ
half_units n = count (is_half_unit n) n

abbrev pub index1 : ℕ → ℕ
index1 n = half_units n * index0 n

abbrev pub family_index : Family → ℕ → ℕ
family_index family.Gamma0 n = index0 n
family_index family.Gamma1 n = index1 n
family_index family.Gamma n = n * index1 n
