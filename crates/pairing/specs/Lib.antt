-- What a reader of the crate `pairing` must believe, in reading order.
pub mod Generator
pub mod Subgroup
pub mod Inner
