-- What a reader of the crate `matrix_word` must believe, in reading order: the answers, what they mean; and then the
-- inner functions.
pub mod Answer
pub mod Claim
pub mod Inner
