-- What a reader of the crate `cycle_reading` must believe.
pub mod Reading
pub mod Inner
