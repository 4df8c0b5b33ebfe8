-- The laws that the proofs of `reuse` share.
pub mod Placed
pub mod Freed
pub mod Column
pub mod Row
pub mod Batch
