-- What a reader of the crate `cycle_notation` must believe, in reading order: the pieces of a text, the form, the place
-- where a text leaves it, what is said of a text.
pub mod Piece
pub mod Form
pub mod Place
pub mod Verdict
pub mod Table
pub mod Inner
