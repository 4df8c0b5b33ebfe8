-- The laws that the proofs of `runner` share.
pub mod Finite
pub mod Relying
pub mod Turns
pub mod Stood
pub mod Sweeps
pub mod Outcomes
