-- The laws that the proofs of `ordering` share.
pub mod Positions
pub mod Marking
pub mod Trials
pub mod Answers
