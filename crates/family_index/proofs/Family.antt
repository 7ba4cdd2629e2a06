-- Laws of the index of a family: what it is for each, and that the products stay small for a modulus.
-- Why: an entry of the table has 16 bits, and the units up to sign are at most 1,000.
-- Assumes nothing.
use mathlib.Core.Path.{◌≡◌}
use Prim.Native.Nat.{ℕ, ◌*◌, ◌≤◌}
use native.Mathlib.Omega.{arith}
use native.Mathlib.Nat.{mul-le-mul}
use Rattle.congruence.specs.Index.{index0, half_units, family_index}
use Rattle.congruence.specs.declared.Family.{Family}
use Rattle.congruence.specs.declared.Family.TheVariants as family
use Rattle.congruence.specs.Inner.Common.{Modulus}

pub fits1 : {n units index : ℕ} → Modulus n → units ≤ n → index ≤ 65535 → units * index ≤ 65535000
fits1 {n} {units} {index} m u z =
    let low : units ≤ 1000 = omega (arith, m.most) in
    mul-le-mul low z

pub fits : {n units index : ℕ} → Modulus n → units ≤ n → index ≤ 65535 → n * (units * index) ≤ 65535000000
fits {n} {units} {index} m u z = mul-le-mul m.most (fits1 m u z)

pub of_gamma0 : {f : Family} (n : ℕ) {index : ℕ} → f ≡ family.Gamma0 → index ≡ index0 n → index ≡ family_index f n
of_gamma0 n e z = rw e z

pub of_gamma1 : {f : Family} (n : ℕ) {units index : ℕ} → f ≡ family.Gamma1 → units ≡ half_units n → index ≡ index0 n → units * index ≡ family_index f n
of_gamma1 n e u z = rw (e, u, z)

pub of_gamma : {f : Family} (n : ℕ) {units index : ℕ} → f ≡ family.Gamma → units ≡ half_units n → index ≡ index0 n → n * (units * index) ≡ family_index f n
of_gamma n e u z = rw (e, u, z)
