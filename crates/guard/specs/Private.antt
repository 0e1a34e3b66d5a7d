-- The words in which the contracts of private functions are put: no public entry's contract and no headline theorem speaks of
-- them, so a buyer need not read them.
pub mod InForce
pub mod Decision
pub mod Inside
pub mod Tested
pub mod Scan
pub mod Firm
pub mod Apply
