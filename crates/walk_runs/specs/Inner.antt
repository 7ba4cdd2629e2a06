-- What the functions of the crate `walk_runs` promise each other: how the tables of rounds are laid out, what a loop or
-- a call leaves there, what is asked of a caller. A reader who trusts the checker need not read it.
pub mod Rounds
pub mod Tally
