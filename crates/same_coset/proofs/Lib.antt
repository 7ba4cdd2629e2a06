-- Why the crate `same_coset` answers what it does, in reading order: one pair and what its answer means, the lines of many pairs, the whole call.
pub mod Single
pub mod Lines
pub mod Whole
-- Why the runs of T lead where the matrix does: powers of T, division to the nearest multiple, the rows that remain of a matrix, signed numbers, runs in their
-- cusps, the invariant, the tables by place, the coset tables of a symbol.
pub mod Powers
pub mod Nearest
pub mod Rows
pub mod Signed
pub mod Places
pub mod Runs
pub mod ByPlace
