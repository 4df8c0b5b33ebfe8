-- What the contracts of `runner` cite.
pub mod Outcome
pub mod Following
