-- Why the table is the one that the rule gives: how it is written from the sides.
pub mod Stored
pub mod Written
pub mod Answers
