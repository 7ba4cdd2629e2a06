-- What a reader of the crate `containment` must believe, in reading order: one subgroup and two symbols, the answer of
-- `same` and what it means, and symbols that differ in their labels only.
pub mod Group
pub mod Same
pub mod Relabel
-- Pairs of points and their tables, when a subgroup lies in another, and both for two symbols.
pub mod Pairs
pub mod Contained
pub mod TwoSymbols
-- The answer of `contains` and what it means.
pub mod Inclusion
pub mod Inner
