-- What a reader of the crate `coset` must believe, in reading order: the positions and their steps, the tables, what
-- they are tables of, their figures, the answers; and then what the functions inside the crate promise each other.
pub mod Positions
pub mod Tables
pub mod Theorem
pub mod TableFigures
pub mod Answer
pub mod Inner
