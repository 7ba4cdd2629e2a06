-- What the functions of the crate `buckets` promise each other and those who call them. A reader who trusts the checker
-- need not read it.
pub mod Pairs
