-- What the functions of the crate `import_sides` promise each other: how the work space is laid out, what a loop or a
-- call leaves there, what is asked of a caller. A reader who trusts the checker need not read it.
pub mod Work
pub mod Cells
