-- Why the promises of the crate `intersections` hold, in reading order: a visit to a pair; the walk over the pairs.
pub mod Images
pub mod Walk
pub mod Given
pub mod Symbols
pub mod Means
