-- What the contracts of `checker` cite.
pub mod Source
pub mod Whole
