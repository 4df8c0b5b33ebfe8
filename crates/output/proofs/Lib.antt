-- The laws that the proofs of `output` share.
pub mod Digits
pub mod Places
