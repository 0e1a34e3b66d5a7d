-- The proofs of OldWidth.
pub mod OldWidth
