-- What the functions of the crate `partner_exchange` ask of each other. A reader who trusts the checker need not read
-- it.
pub mod Ready
