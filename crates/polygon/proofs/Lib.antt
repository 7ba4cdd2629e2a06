-- Why what the crate `polygon` promises is true, in reading order: the theorem, with its examples, and then the laws of the functions. The
-- folders beside these files hold the proofs of the functions.
pub mod SymbolFacts
pub mod OneCoset
pub mod Framed
pub mod Mediant
pub mod Edges
pub mod Chord
pub mod Scan
pub mod Triangles
pub mod Flip
pub mod Corner
pub mod Steps
pub mod Promise
pub mod Near
pub mod Start
pub mod Followed
pub mod Polygon
pub mod Tests
pub mod Space
pub mod Scanning
pub mod Partners
pub mod Stepping
