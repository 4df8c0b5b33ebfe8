-- What the contracts of `progress` cite.
pub mod Steps
