-- The laws that several of the crate's proofs share.
pub mod Clean
