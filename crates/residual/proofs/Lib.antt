-- The laws that the proofs of `residual` share.
pub mod Changing
pub mod Labelled
pub mod Fitted
