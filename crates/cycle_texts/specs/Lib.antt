-- What a reader of the crate `cycle_texts` must believe, in reading order. Cycle notation read.
pub mod Cut
pub mod CyclesAnswer
-- Cycle notation written.
pub mod ToCyclesAnswer
pub mod Inner
