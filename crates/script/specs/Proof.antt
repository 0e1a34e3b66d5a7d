-- The proofs of Theorem.
pub mod Silent
pub mod Sessions
