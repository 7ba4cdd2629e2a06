-- What a reader of the crate `symbol` must believe, in reading order.
pub mod Table
pub mod Check
pub mod Symbol
pub mod Inner
