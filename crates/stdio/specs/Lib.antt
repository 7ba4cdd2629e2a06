-- What the functions of the crate promise each other.
pub mod Inner
