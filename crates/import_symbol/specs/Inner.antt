-- What the functions of the crate `import_symbol` promise each other: what a loop or a call leaves in the
-- result space, what is asked of a caller. A reader who trusts the checker need not read it.
pub mod Writing
pub mod Answer
