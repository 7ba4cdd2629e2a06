-- What a reader of the crate `polygon` must believe, in reading order: the polygon, its steps, its triangles and their
-- corners, the walk, the promise.
pub mod Cut
pub mod Step
pub mod Triangles
pub mod Corner
pub mod Walk
pub mod Theorem
pub mod Inner
