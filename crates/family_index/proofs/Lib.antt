-- Why the functions of the crate `family_index` meet their contracts.
pub mod Family
pub mod Test
