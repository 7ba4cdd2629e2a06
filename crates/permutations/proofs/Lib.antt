-- Why the checks answer what they do, in reading order.
pub mod Images
pub mod Accepted
pub mod Numbers
pub mod Pair
pub mod Marks
pub mod Queue
pub mod Answering
