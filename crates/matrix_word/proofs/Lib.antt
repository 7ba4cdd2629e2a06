-- Why the calls for one matrix answer what they do, in reading order: the determinant, the checks, the walk, the meaning.
pub mod Decisions
mod Determinant
pub mod Checks
pub mod Along
pub mod Meaning
