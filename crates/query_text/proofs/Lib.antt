-- The laws behind the proofs.
pub mod Replied
-- The laws of a sheet's text.
pub mod SheetFresh
pub mod SheetTable
pub mod SheetPrinting
pub mod SheetReadings
pub mod SheetAnswers
