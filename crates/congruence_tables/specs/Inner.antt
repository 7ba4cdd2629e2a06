-- What the functions of the crate `congruence_tables` promise each other. A reader who trusts the checker need not read
-- it.
pub mod Held
-- Right cosets by small numbers modulo N.
pub mod Residues
