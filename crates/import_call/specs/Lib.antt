-- What a reader of the crate `import_call` must believe.
pub mod Import
