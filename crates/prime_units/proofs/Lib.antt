-- Why the functions of the crate `prime_units` meet their contracts: numbers, and marks of powers.
pub mod Numbers
pub mod Marks
