-- Why what the crate `signs` promises is true, in reading order.
pub mod Sign
pub mod Word
pub mod Row
pub mod Edge
pub mod Promise
pub mod Query
pub mod Tests
