-- Why every builder keeps the standing rule, and why every genus is a number.
pub mod Builders
pub mod Genus
-- Why each of the starred instances holds.
pub mod Instances
pub mod Calls
