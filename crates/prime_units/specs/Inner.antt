-- What the functions of the crate `prime_units` promise each other and the crates above. A reader who trusts the
-- checker need not read it.
pub mod Numbers
pub mod Marks
pub mod Found
