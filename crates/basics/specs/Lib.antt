-- What a reader of the crate `basics` must believe, in reading order.
pub mod Choice
pub mod Count
