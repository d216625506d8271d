-- The proofs of the laws.
pub mod lemmas
