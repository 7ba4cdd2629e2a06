-- What the functions of the crate `intersections` promise each other. A reader who trusts the checker need not read it.
pub mod Pairs
