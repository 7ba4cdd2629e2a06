-- Why the theorems of the crate `congruence_decision` hold, in reading order: powers of a prime; words in T and L, and representations modulo q; the relations
-- modulo a prime power, and the local theorem; what the braid gives, one unit is enough, all relations follow; the parts of a number; the converse; the parts
-- together; numbers for points; the widths' prime powers; a program's maps and equations; the theorems of specs/Theorems.antt.
pub mod Primes
pub mod Words
pub mod Relations
pub mod Local
pub mod Braid
pub mod Generator
pub mod Twice
pub mod Part
pub mod Converse
pub mod Whole
pub mod Moving
pub mod Shares
pub mod Maps
pub mod Theorem
