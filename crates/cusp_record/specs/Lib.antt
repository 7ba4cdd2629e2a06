-- What a reader of the crate `cusp_record` must believe, in reading order: the coset record and its standing rule, the
-- answers; and then what the functions ask of the work space and leave there.
pub mod Record
pub mod Answer
pub mod Inner
