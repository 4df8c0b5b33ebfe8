-- What the contracts of `reuse` cite.
pub mod Places
