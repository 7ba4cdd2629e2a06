-- What the functions of the crate `same_coset` promise each other: how the work space is laid out, what a loop or a
-- call leaves there, what is asked of a caller. A reader who trusts the checker need not read it.
pub mod Ready
-- The tables by place, and the rows that remain of a matrix.
pub mod Places
pub mod Rows
