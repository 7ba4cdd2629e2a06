-- What a reader of the crate `right_cosets` must believe, in reading order: conditions on matrices; transversals, whose
-- length is the index; where a matrix leads in tables; the numbered right cosets; the theorems.
pub mod Condition
pub mod Transversal
pub mod Leads
pub mod Cosets
pub mod Theorems
pub mod Inner
