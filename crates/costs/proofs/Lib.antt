-- The laws that the proofs of `costs` share.
pub mod Answers
