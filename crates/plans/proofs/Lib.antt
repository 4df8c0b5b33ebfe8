-- The laws that the proofs of `plans` share.
pub mod Wanted
pub mod Places
pub mod Middle
pub mod Standing
pub mod Refused
