-- What the contracts of `plans` cite.
pub mod Slotted
pub mod Stands
