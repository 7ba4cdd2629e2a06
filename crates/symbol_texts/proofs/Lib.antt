-- Why the functions of the crate `symbol_texts` meet their contracts. The symbol of a pair.
pub mod ImportLines
pub mod ImportEntries
pub mod ImportAnswering
pub mod ImportReadBack
-- The lines of a pair.
pub mod PairLines
pub mod PairReadBack
-- The symbol of a group by its name.
pub mod NamedMaking
pub mod NamedAsked
-- A symbol with partners exchanged.
pub mod ExchangePrinting
