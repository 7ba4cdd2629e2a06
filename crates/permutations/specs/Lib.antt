-- What a reader of the crate `permutations` must believe, in reading order.
pub mod Pair
pub mod Check
pub mod Inner
