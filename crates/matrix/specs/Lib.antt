-- What a reader of the crate `matrix` must believe, in reading order.
pub mod Matrix
pub mod Words
pub mod Euclid
pub mod Action
pub mod Theorems
pub mod Bounds
