-- What the functions of the crate `cycle_texts` promise each other. A reader who trusts the checker need not read it.
pub mod Ends
