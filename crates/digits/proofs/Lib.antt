-- The laws that the proofs of `digits` lean on.
pub mod Halves
pub mod Fields
