-- What the proofs of the exported functions share.
pub mod Numbers
pub mod Said
pub mod MatrixSaid
pub mod Lent
pub mod Drawn
pub mod Written
pub mod CycleCalls
