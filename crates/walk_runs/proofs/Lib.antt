-- Why a run is one division, and the walk by runs is the walk, in reading order: a map repeated, the word by quotients, the walk along blocks, the same
-- number of letters there and back, runs of S P by rounds of S Q, how rounds are entered.
pub mod Repeated
pub mod Quotients
pub mod Blocks
pub mod Symmetry
pub mod Backward
pub mod Entering
pub mod Counts
pub mod Following
pub mod Tallying
