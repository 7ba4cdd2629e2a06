-- Why the functions of the crate `subgroup_texts` meet their contracts. Two symbols of the same subgroup.
pub mod SamePlaces
pub mod SameLines
pub mod SameReadings
-- The intersection of two subgroups.
pub mod IntersectionPoints
pub mod IntersectionPrinting
-- Towers of subgroups.
pub mod TowerPieces
pub mod TowerReadings
pub mod TowerLines
