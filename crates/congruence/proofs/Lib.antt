-- Why the theorems of the crate `congruence` hold, in reading order: multiples and residues; the families are conditions; the index of Γ0, of Γ1 and of Γ; the
-- tests of the families; the theorems of specs/Theorems.antt.
pub mod Multiple
pub mod Signed
pub mod Conditions
pub mod Prime
pub mod Step0
pub mod Factor
pub mod Index0
pub mod Sign
pub mod Step1
pub mod Phi
pub mod Step
pub mod Meets
pub mod Modulo
pub mod Theorem
pub mod Instances
-- Why the functions of the module `modular` meet their contracts.
pub mod Euclid
pub mod Units
pub mod Primes
