-- Laws of the program `farey` that belong to no one function.
pub mod Names
pub mod Named
pub mod Meanings
