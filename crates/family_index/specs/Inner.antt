-- What the functions of the crate `family_index` promise each other: the test of the table. A reader who trusts the
-- checker need not read it.
pub mod Test
