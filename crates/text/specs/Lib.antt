-- What the contracts of `text` cite.
pub mod Readings
