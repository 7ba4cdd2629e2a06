-- What a reader of the crate `normal_forms` must believe, in reading order: reduced words, reducing a word, the
-- theorem.
pub mod Reduced
pub mod Reduce
pub mod Theorem
