-- What the exported functions return, and what that says of cycle notation.
pub mod Exported
pub mod CycleCalls
