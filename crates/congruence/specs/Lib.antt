-- What a reader of the crate `congruence` must believe, in reading order: the three families; the index as a function
-- of N; the numbered right cosets of the families; the theorems.
pub mod Congruence
pub mod Index
pub mod Cosets
pub mod Theorems
pub mod Inner
