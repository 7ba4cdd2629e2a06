-- The laws behind the crate's promises, in reading order. Each upper crate may cite them.
pub mod Choice
pub mod Signed
pub mod Pairings
pub mod Sides
pub mod Vertices
pub mod Accepted
pub mod Marking
pub mod Seeking
pub mod Order
