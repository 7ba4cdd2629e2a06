-- What the functions of the crate `stdio` promise each other, and a program that reads. A reader who trusts the checker
-- need not read it.
pub mod Input
