-- What the contracts of the writer cite.
pub mod Kinds
pub mod Written
pub mod Worked
pub mod Line
pub mod Prepared
pub mod Sweep
