-- The laws behind the proofs, a file for each thing that they are about.
pub mod Clash
pub mod Blanks
pub mod Pieces
pub mod Numbers
pub mod Signs
pub mod Walks
pub mod Wants
pub mod Answers
pub mod Decimals
pub mod Handed
pub mod Says
pub mod Counts
pub mod Examples
-- The laws of lines.
pub mod Spacing
-- Where a part ends.
pub mod Ends
-- The laws of an input's text, and of what is answered once it is read.
pub mod InputText
pub mod OnceRead
-- The exit of a `?`.
pub mod Exits
