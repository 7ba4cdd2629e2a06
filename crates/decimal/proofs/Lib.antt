-- The laws behind the proofs, a file for each thing that they are about.
pub mod Signs
pub mod Places
pub mod Decimals
pub mod Placing
