-- What the functions of the crate `towers` promise each other. A reader who trusts the checker need not read it.
pub mod Entries
