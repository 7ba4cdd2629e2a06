-- The reader that proofs/ compares with the form, and tables made by stores.
pub mod Reader
pub mod Stores
