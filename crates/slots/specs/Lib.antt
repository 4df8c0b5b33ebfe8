-- What the contracts of the slot pass cite.
pub mod Batch
pub mod Marks
pub mod Skips
pub mod Unnoted
pub mod Walked
pub mod Zeros
