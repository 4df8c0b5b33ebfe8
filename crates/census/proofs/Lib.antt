-- The laws that the proofs of `census` share.
pub mod Marking
