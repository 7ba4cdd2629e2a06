-- The same form for functions that return an answer to each other. A reader who trusts the checker need not read it.
pub mod Fills
