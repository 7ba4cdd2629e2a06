-- Why the functions of the crate `cycle_texts` meet their contracts. Cycle notation read.
pub mod CyclesRuns
pub mod Onward
pub mod Cutting
pub mod CyclesPrinting
-- Cycle notation written.
pub mod ToCyclesPrinting
