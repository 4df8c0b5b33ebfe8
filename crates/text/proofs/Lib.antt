-- The laws that the proofs of `text` share.
pub mod Numbers
