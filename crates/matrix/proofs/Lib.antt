-- The laws behind the crate's promises, in reading order. Each upper crate may cite them.
pub mod Integer
pub mod Ring
pub mod Matrix
pub mod Form
pub mod Sign
pub mod Uniqueness
pub mod Existence
pub mod Action
pub mod Bounds
