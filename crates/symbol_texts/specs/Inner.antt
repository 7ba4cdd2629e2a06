-- What the functions of the crate `symbol_texts` promise each other. A reader who trusts the checker need not read it.
pub mod Front
pub mod ImportSpaces
pub mod PairFits
