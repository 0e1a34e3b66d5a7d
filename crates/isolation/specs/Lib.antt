-- The isolation rule: Upper defines the upper part and the upper requests, UpperInWords says the upper part sentence by sentence,
-- Calls has the words in which the rule is said of the code, Teeth those in which it is shown what the rule shuts out. Log takes it
-- from one request to logs. proofs/Theorem states the rule; beside it proofs/Calls says it of the code, proofs/OneRequest proves it,
-- proofs/Teeth shows what it shuts out.
-- Taking over tables of the old width: Within says when category numbers stay within a width, and what tables without marks and ties are,
-- OldWidth states the theorem, PastOldWidth shows that its premise matters.
pub mod Upper
pub mod UpperInWords
pub mod Calls
pub mod Log
pub mod Proof
pub mod Teeth
pub mod Within
pub mod OldWidth
pub mod PastOldWidth
