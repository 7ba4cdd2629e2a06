-- Drawings of a symbol: a side, the box around the sides, the call. What is in Inner need not be read.
pub mod Drawn
pub mod Bounding
pub mod Answer
-- Floats of 64 bits as fractions of whole numbers: the nearest quotient, the least and the greatest of some.
pub mod Quotient
pub mod Extreme
pub mod Inner
