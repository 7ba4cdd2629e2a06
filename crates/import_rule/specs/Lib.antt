-- What a reader of the crate `import_rule` must believe, in reading order.
pub mod Fixed
pub mod Side
pub mod Order
pub mod Rule
pub mod Symbol
pub mod Theorem
pub mod Inner
