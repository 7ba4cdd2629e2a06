-- What a reader of the crate `sheets` must believe, in reading order: the answers of a sheet, what they mean; and then
-- the inner functions.
pub mod Sheet
pub mod Meaning
pub mod Inner
