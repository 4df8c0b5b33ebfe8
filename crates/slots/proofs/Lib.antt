-- The laws that the proofs of `slots` share.
pub mod Marks
pub mod Here
pub mod Notes
pub mod Search
pub mod Settling
pub mod Along
pub mod Pass
pub mod Zeros
