-- The laws behind the crate's promises, in reading order. Each upper crate may cite them.
pub mod Facts
pub mod Partners
pub mod Rows
pub mod Meaning
pub mod Admitted
pub mod Both
