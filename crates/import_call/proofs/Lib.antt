-- Why the calls answer and leave what they do, in reading order.
pub mod Thirds
pub mod Renumbered
pub mod Vertices
pub mod Means
pub mod Told
pub mod Answering
