-- The laws that the proofs of `codec` share.
pub mod Turn
pub mod Outcome
pub mod Again
