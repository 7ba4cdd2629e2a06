-- What a reader of the crate `prime_units` must believe: nothing but what its functions promise the crates above.
pub mod Inner
