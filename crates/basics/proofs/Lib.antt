-- The laws of choosing and of counting, which every upper crate may cite.
pub mod Choice
pub mod Count
