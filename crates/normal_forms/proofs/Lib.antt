-- Why what the crate `normal_forms` promises is true, in reading order.
pub mod Put
pub mod Side
pub mod Writing
pub mod Alternate
pub mod Value
pub mod Copy
pub mod Reached
pub mod Clauses
pub mod Forms
pub mod Tests
