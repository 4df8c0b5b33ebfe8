-- What the contracts of `many` cite.
pub mod Passes
