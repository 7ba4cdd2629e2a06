-- What a reader of the crate `wohlfahrt` must believe, in reading order: congruence subgroups and the level of tables;
-- the theorems.
pub mod IsCongruence
pub mod Theorems
