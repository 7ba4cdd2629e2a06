-- What the functions of the crate `permutations` promise each other: what a loop or a call leaves in memory of its own,
-- what is asked of a caller. A reader who trusts the checker need not read it.
pub mod Seen
pub mod Reach
