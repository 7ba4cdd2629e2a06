-- What a reader of the crate `congruence_equations` must believe: nothing but what its functions promise the crates
-- above.
pub mod Inner
