-- The laws that the proofs of `sums` share.
pub mod Carry
