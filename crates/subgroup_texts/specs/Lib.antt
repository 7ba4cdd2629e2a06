-- What a reader of the crate `subgroup_texts` must believe, in reading order. Two symbols of the same subgroup.
pub mod SameAnswer
-- The intersection of two subgroups.
pub mod IntersectionAnswer
-- Towers of subgroups.
pub mod TowerAnswer
pub mod Inner
