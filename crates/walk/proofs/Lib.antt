-- The laws behind the walk, in reading order: letters stored, what is left of the matrix, the sign, one letter at a time, the walk put together, and two
-- letters at once.
pub mod Stored
pub mod Forms
pub mod Told
pub mod Letters
pub mod Onward
pub mod Stride
