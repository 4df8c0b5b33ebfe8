-- The laws that the proofs of `compiler` share.
pub mod Parts
pub mod Copied
pub mod Compacted
pub mod Compilers
pub mod Ending
pub mod Sweeping
