-- What a reader of the crate `index_text` must believe.
pub mod Lines
