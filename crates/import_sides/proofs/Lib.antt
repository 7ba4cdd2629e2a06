-- Why the walk from the left follows the rule, in reading order.
pub mod Cells
pub mod Turn
pub mod Decode
pub mod Held
pub mod Walking
pub mod Begin
-- Why the queue follows the wide rule, in reading order.
pub mod Waiting
pub mod Serving
pub mod Stores
pub mod Along
pub mod State
pub mod After
pub mod Parting
pub mod Starting
pub mod Turns
pub mod Laying
pub mod Whole
