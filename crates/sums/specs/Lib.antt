-- What the contracts of `sums` cite.
pub mod Added
