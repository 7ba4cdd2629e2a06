-- The crate `congruence_tables` has no definitions of its own that a reader must believe: the tables are `family_s` and
-- `family_r` of `congruence`.
pub mod Inner
