-- What the functions of the crate `congruence_equations` promise each other and the crates above. A reader who trusts
-- the checker need not read it.
pub mod Places
