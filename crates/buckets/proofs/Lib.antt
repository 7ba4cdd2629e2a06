-- Why the functions of the crate `buckets` meet their contracts: a pair and its number; a chain is searched; a pair is put in; a pair joins the list.
pub mod Chain
pub mod Entered
