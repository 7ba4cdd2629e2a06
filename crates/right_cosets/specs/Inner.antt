-- What the proofs of the crate `right_cosets` share with the crates above. A reader who trusts the checker need not
-- read it.
pub mod Listed
