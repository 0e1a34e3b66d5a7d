-- Document 01 as definitions, in the paper's order, with the changes of document 02 that have landed made in it. Each definition's
-- comment is the paper's sentence. Laws stand in proofs/Laws; Private holds words of private functions' contracts, which a buyer
-- need not read.
pub mod Level
pub mod Label
pub mod Told
pub mod Below
pub mod Tables
pub mod Chain
pub mod Sound
pub mod Fresh
pub mod Edits
pub mod Backed
pub mod Refusals
pub mod Conditions
pub mod Requests
pub mod Step
pub mod SameRequest
pub mod Kind
pub mod Methods
pub mod Batch
pub mod Old
pub mod Private
