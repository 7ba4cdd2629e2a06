-- Why the promises of the crate `towers` hold, in reading order: where entries begin and end; checks in listing order; what the answer means, and by its
-- number; the ways out of the call.
pub mod Entries
pub mod Checks
pub mod Means
pub mod Says
pub mod Order
