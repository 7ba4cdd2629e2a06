-- Why an exchange of partners gives a symbol, what stays, and what further exchanges do; then the answers of the calls.
pub mod Sides
pub mod Labelled
pub mod Trade
pub mod Again
pub mod Theorem
pub mod Copied
pub mod Answered
pub mod Sample
