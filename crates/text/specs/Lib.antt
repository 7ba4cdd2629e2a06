-- The promises of `text`, in reading order: what a piece of text is and which number it says, the answer of `read`, the
-- laws, and last what the functions inside the crate promise each other.
pub mod Blank
pub mod Number
pub mod Piece
pub mod Reading
pub mod Laws
-- What a line of text is.
pub mod Line
-- Where the first of several texts ends.
pub mod Part
-- An answer to an input.
pub mod Input
pub mod Inner
