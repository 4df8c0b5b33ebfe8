-- What the contracts of `ordering` cite.
pub mod Ordered
pub mod Numbered
