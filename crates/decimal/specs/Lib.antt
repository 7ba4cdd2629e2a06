-- What a reader of the crate `decimal` must believe: bytes by a text in quotes, the decimal form of a number, and what
-- the functions answer and leave.
pub mod Ascii
pub mod Decimal
pub mod Writing
