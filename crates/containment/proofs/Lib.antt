-- Why the theorems of the crate `containment` hold, in reading order: the subgroup that matrices generate is a condition; symbols that differ in their
-- labels only; the theorems; what the answer means.
pub mod Generated
pub mod Sides
pub mod Relabel
pub mod Theorem
pub mod Means
-- The same for pairs of points, for a subgroup in another, and for two symbols.
pub mod Pairs
pub mod Contained
pub mod TwoSymbols
-- What yes and no of `contains` mean; tables that were kept.
pub mod InclusionMeans
pub mod Tables
-- Following positions: why that decides containment; its parts; from corners to positions.
pub mod Tracked
pub mod Corners
pub mod Decided
