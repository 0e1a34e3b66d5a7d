-- The section "The request program" of document 01 as definitions, in the paper's order (Text to Report), with the changes of
-- document 02 that have landed made in it; Theorem states what holds of whole runs, over the words of Run, and Proof proves it.
-- Private holds words of private functions' contracts, which a buyer need not read.
pub mod Text
pub mod Names
pub mod Line
pub mod Report
pub mod Run
pub mod Theorem
pub mod Proof
pub mod Private
