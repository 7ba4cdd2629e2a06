-- Why what the crate `cycle_reading` promises is true, in reading order.
pub mod Left
pub mod Naming
pub mod Held
pub mod Loop
pub mod Through
pub mod Both
pub mod Solos
pub mod Fronts
pub mod Judging
pub mod Filling
pub mod Answered
