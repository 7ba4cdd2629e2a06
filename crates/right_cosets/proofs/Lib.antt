-- Why the theorems of the crate `right_cosets` hold, in reading order: transversals of one length; the first number that passes a test; the places of
-- cosets; what tables of right cosets say in short; the numbered points; one table only; the cosets in the order of the rule; the list that visits make; the
-- theorems of specs/Theorems.antt.
pub mod Transversal
pub mod First
pub mod Place
pub mod Tabled
pub mod Points
pub mod Unique
pub mod Walked
pub mod Listed
pub mod Theorem
