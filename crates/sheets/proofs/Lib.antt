-- Why a sheet answers what it does, in reading order: rows in a table, how long a word can be, one pair, the word space from pair to pair, the lines, what
-- the number of a query tells and what a line says, the whole sheet.
pub mod Rows
pub mod Long
pub mod Single
pub mod Spaces
pub mod Lines
pub mod Said
pub mod Says
pub mod Whole
