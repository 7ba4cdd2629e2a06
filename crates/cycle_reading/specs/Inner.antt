-- What the functions of the crate `cycle_reading` promise each other. A reader who trusts the checker need not read it.
pub mod Phases
pub mod Hand
pub mod PartRun
pub mod Alone
pub mod Front
