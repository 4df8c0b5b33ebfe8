-- What the contracts of `costs` cite.
pub mod Costed
