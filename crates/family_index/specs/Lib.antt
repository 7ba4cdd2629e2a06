-- What a reader of the crate `family_index` must believe: what an entry of the table of Γ0(n) says. The index itself is
-- defined in the crate `congruence`.
pub mod Gamma0Entry
pub mod Inner
