-- What the code of `is_sound` computes, against `sound`: loops, columns, members and counts, then each part.
pub mod Tests
pub mod Loops
pub mod Count
pub mod Members
pub mod Listed
pub mod DeadSet
pub mod Climb
pub mod Cases
pub mod EntityFacts
pub mod Keys
pub mod Grants
pub mod Ties
pub mod Opens
pub mod Whole
