-- What the functions of the crate `subgroup_texts` promise each other. A reader who trusts the checker need not read
-- it.
pub mod TwoTexts
