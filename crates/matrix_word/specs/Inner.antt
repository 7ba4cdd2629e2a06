-- What the functions of the crate `matrix_word` promise each other. A reader who trusts the checker need not read it.
pub mod Ready
