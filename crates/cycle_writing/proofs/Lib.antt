-- Why the call answers and leaves what it does, in reading order.
pub mod Pieces
pub mod Right
pub mod Short
pub mod Points
pub mod Tables
pub mod Sizes
pub mod Most
pub mod Theorem
pub mod Placed
pub mod Answers
pub mod Examples
