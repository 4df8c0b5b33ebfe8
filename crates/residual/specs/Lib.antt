-- What the contracts of `residual` cite.
pub mod Subtracted
