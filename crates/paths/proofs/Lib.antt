-- The laws that the proofs of `paths` share.
pub mod Trail
pub mod Trails
pub mod Answers
