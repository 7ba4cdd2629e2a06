-- Why the figures are what they are, in reading order: cycles and cusps, the genus, the level; the code's own laws; what upper crates cite; the figures of the
-- groups of docs/CONVENTIONS.md, 12, computed.
pub mod Cycle
pub mod Cusps
pub mod GenusOf
pub mod LevelOf
pub mod Scan
pub mod Filled
pub mod Instances
-- Why the genus is a number: the exchange of two points; the number of cycles and the labels that a permutation keeps; what an exchange does to the number of
-- cycles; the orbits of two permutations; the cycles of a table; the Riemann–Hurwitz formula; tables that are numbered by the rule; permutations of order two
-- and three; the genus; an instance.
pub mod Exchange
pub mod Cycles
pub mod Transposition
pub mod Orbits
pub mod TableCycles
pub mod RiemannHurwitz
pub mod Transitive
pub mod Orders
pub mod Genus
pub mod GenusInstance
