-- What a reader of the crate `intersections` must believe: the answer of the call and what it means; and then what the
-- functions promise each other.
pub mod Answer
pub mod Inner
