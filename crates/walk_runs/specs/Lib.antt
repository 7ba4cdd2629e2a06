-- A reader need believe nothing of the crate `walk_runs`: the crates above it say what comes of it. Runs of blocks.
pub mod Runs
pub mod Inner
