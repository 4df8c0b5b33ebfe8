-- The laws that the proofs of `writer` share.
pub mod Written
pub mod Products
pub mod Formulas
pub mod Line
pub mod Agree
pub mod Numbers
pub mod Whole
pub mod Sweep
