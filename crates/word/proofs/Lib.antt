-- Why a query answers what it does, in reading order: the pair, the matrix that is followed, the claim; then the answers of the functions.
pub mod Pair
pub mod Turned
pub mod Claim
pub mod Returned
pub mod Finding
pub mod Refused
pub mod Order
