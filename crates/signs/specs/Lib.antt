-- What a reader of the crate `signs` must believe, in reading order: signs and matrices, the signs of steps and of
-- walks, the theorem.
pub mod Sign
pub mod Step
pub mod Theorem
