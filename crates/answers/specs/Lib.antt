-- What the contracts of `answers` cite.
pub mod Numbers
