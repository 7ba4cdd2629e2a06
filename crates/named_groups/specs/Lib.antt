-- What a reader of the crate `named_groups` must believe, in reading order.
pub mod Group
pub mod Answer
pub mod Claim
pub mod Inner
