-- What a reader of the crate `cycle_writing` must believe, in reading order: the cycles of a table, their bytes, the
-- answers of the call.
pub mod Cycles
pub mod Bytes
pub mod Export
pub mod Inner
