-- What the functions of the crate `congruence` promise each other and the crates above: what is asked of a modulus, and
-- a common divisor. A reader who trusts the checker need not read it.
pub mod Common
