-- The laws that the proofs of `exchange` share.
pub mod Lines
pub mod Counting
pub mod Verdict
