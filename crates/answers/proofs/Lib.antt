-- The laws on answers that the exported functions' proofs share.
pub mod Numbers
