-- What the functions of the crate `text` promise each other: how the work space is laid out, what a loop or a call
-- leaves there, what is asked of a caller. A reader who trusts the checker need not read it.
pub mod Inside
-- The end of an input's text.
pub mod TextEnds
