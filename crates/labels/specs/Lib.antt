-- What the contracts of `labels` cite.
pub mod Located
pub mod Batches
