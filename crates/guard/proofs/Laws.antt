-- One file a subject, named after the file of specs/ whose definitions it speaks of (Pigeons: what Chain needs of numbers;
-- Rights: the four sets of a role, of Tables and Edits; Told: also the check of a right, of Tables, and what a request tells, of Step;
-- Edition: what it decides and what not, of Requests, Sound and Step).
pub mod Label
pub mod Firm
pub mod Pigeons
pub mod Below
pub mod Juniors
pub mod Chain
pub mod Rights
pub mod Sound
pub mod Fresh
pub mod Refusals
pub mod Requests
pub mod Step
pub mod Told
pub mod Backed
pub mod Ties
pub mod SameRequest
pub mod Edition
