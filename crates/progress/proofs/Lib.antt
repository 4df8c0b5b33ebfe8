-- The laws that the proofs of `progress` share.
pub mod Judging
pub mod Right
