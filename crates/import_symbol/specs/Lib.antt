-- What a reader of the crate `import_symbol` must believe.
pub mod Answer
pub mod Inner
