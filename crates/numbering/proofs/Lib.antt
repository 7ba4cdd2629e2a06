-- Why the numbering and the tables are what they are, in reading order: places in a list, the numbering, the tables, that these number themselves, and that the
-- numbering goes over by maps; numbers that pass a test; the work space and the code's own laws; what upper crates cite; the groups of docs/CONVENTIONS.md, 12,
-- computed.
pub mod Find
pub mod Order
pub mod Table
pub mod Numbered
pub mod Over
pub mod Those
pub mod Space
pub mod Listing
pub mod Marks
pub mod Filled
pub mod Instances
