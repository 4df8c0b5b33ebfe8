-- The laws that the proofs of `copies` share.
pub mod Leading
pub mod Written
pub mod Chained
pub mod Line
pub mod Batch
pub mod Answers
