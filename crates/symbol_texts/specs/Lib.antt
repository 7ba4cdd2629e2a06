-- What a reader of the crate `symbol_texts` must believe, in reading order. The symbol of a pair of permutations.
pub mod ImportAnswer
pub mod ReadBack
-- The lines of a pair of permutations.
pub mod Pair
-- The symbol of a group by its name.
pub mod NamedAnswer
-- A symbol with partners exchanged.
pub mod ExchangeAnswer
pub mod Inner
