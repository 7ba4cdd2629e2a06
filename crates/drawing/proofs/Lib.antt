-- From the numbers of one side to all sides, their box and the answer, with an example computed at the end.
pub mod Whole
pub mod Shape
pub mod Rows
pub mod Picture
pub mod Judged
pub mod Sample
-- The laws of floats.
pub mod Nearest
pub mod Quotient
pub mod Order
pub mod Sum
pub mod Extreme
