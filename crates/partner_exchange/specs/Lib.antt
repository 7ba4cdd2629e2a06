-- Partners exchanged: the altered symbol, what stays of the old one and when a second exchange brings it back, the
-- calls. What is in Inner need not be read.
pub mod Exchange
pub mod Theorem
pub mod Answer
pub mod Inner
