-- What a reader of the crate `word` must believe, in reading order: the answers, the claim; and then the inner
-- functions.
pub mod Answer
pub mod Claim
pub mod Inner
