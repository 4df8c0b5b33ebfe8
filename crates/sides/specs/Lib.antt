-- What the contracts of `sides` cite.
pub mod Cells
pub mod Standing
