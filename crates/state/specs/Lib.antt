-- What the contracts of `state` cite.
pub mod States
