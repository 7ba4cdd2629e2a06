-- Why the crate `cusp_record` answers what it does, in reading order: cycles one after another, the coset record, the loop that fills it, the answers.
pub mod Cycles
pub mod Record
pub mod Fill
pub mod Answer
