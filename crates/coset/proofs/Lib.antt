-- Why the crate `coset` answers what it does, in reading order: frames, the positions and their steps, the theorem on the tables, what they say of words, even
-- and odd sides as points that S and R fix, the figures, the genus, the filling of the work space with the tables and with the steps, lists at the front of
-- their spaces, the answers.
pub mod OneFrame
pub mod Positions
pub mod Theorem
pub mod InWords
pub mod FixedPoints
pub mod OddSides
pub mod EvenSides
pub mod TableFigures
pub mod Genus
pub mod Work
pub mod Noted
pub mod Stored
pub mod Answer
