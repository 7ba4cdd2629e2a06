-- What a reader of the crate `numbering` must believe, in reading order: places in a list, the numbering, the tables;
-- and then the work space, and what the functions ask of it and leave.
pub mod Find
pub mod Order
pub mod Table
pub mod Inner
