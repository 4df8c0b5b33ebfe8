-- The laws that the proofs of `checker` share.
pub mod Sources
pub mod Turns
pub mod Whole
