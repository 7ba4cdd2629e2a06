-- Why the theorems of the crate `wohlfahrt` hold, in reading order: sums of multiples by reflection; powers of T and L; matrices that fix every point;
-- inverses; Wohlfahrt's theorem for an action; tables of right cosets as an action; the theorems of specs/Theorems.antt.
pub mod Combine
pub mod Powers
pub mod Acting
pub mod Inverting
pub mod Wohlfahrt
pub mod Points
pub mod Theorem
