-- What a reader of the crate `call` must believe: what every call for users promises, in one form; and then what
-- functions promise each other.
pub mod Call
-- The numbers and places of refusals, and the answers that hold them.
pub mod Refusal
-- How long the lent work space is, and what a cleared one holds.
pub mod Space
pub mod Inner
