-- What a reader of the crate `towers` must believe, in reading order: a tower, what its answer means, the call; and
-- then the inner functions.
pub mod Tower
pub mod Meaning
pub mod Answer
pub mod Inner
