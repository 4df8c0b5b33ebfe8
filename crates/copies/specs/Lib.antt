-- What the contracts of `copies` cite.
pub mod Beside
pub mod Compared
