-- Why the calls on groups with names meet their contracts: the checks (Checked); a family's tables are a pair of permutations (Tables); the symbol
-- of these (Symbols); the arms of the calls for tables and symbols (Answers); what a query means (Claim), and its arms (Asking).
pub mod Checked
pub mod Tables
pub mod Symbols
pub mod Answers
pub mod Claim
pub mod Asking
