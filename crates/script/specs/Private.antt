-- The words in which the contracts of private functions are put: no public entry's contract and no theorem speaks of them, so
-- a buyer need not read them.
pub mod Slices
pub mod ShortTexts
pub mod Rows
pub mod Steps
pub mod LineBatch
