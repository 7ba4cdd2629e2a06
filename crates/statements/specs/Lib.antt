-- What a reader of the crate `statements` must believe: for each builder of coset tables the standing rule, and that
-- the genus is a number.
pub mod Builders
pub mod Genus
-- The starred instances: evidence, not a promise.
pub mod Instances
pub mod Calls
