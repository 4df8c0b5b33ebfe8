-- The laws that the proofs of `labels` share.
pub mod Range
pub mod Seeking
pub mod Round
