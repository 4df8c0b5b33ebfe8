-- What the contracts of `exchange` cite.
pub mod Stood
pub mod Under
