-- The laws behind the proofs.
pub mod Gathered
pub mod Listed
