-- What a reader of the crate `same_coset` must believe, in reading order: the answer for one pair and what it means,
-- the answers for many pairs; and then the inner functions.
pub mod Answer
pub mod Pairs
-- A matrix as runs of T with an S after each, and where they lead.
pub mod Runs
pub mod Inner
