-- What the functions of the crate `cycle_writing` promise each other. A reader who trusts the checker need not read it.
pub mod Short
