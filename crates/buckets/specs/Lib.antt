-- The crate `buckets` has no definitions that a reader must believe: the list that it keeps is made by `add` of
-- `numbering`, and a place in it is `find`.
pub mod Inner
