-- What the contracts of the compiler cite.
pub mod Compilation
pub mod Slotted
