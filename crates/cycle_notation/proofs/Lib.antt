-- Why what the crate `cycle_notation` says is true, in reading order.
pub mod Points
pub mod Along
pub mod Back
pub mod Whole
pub mod Alive
pub mod Wrong
pub mod Only
pub mod Stores
pub mod Examples
