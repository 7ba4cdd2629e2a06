-- The crate `import_sides` has nothing that a reader must believe: what its functions promise each other, and the crate
-- `import_symbol`.
pub mod Inner
