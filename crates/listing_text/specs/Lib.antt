-- What the program `listing` writes, and the slices that it holds.
pub mod Listing
pub mod Inner
