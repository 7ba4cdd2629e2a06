-- What the program `query` writes, and the slices that it holds.
pub mod Reply
-- The same for a sheet: what its program reads and writes.
pub mod Printed
pub mod Inner
