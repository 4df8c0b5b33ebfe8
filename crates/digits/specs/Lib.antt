-- What the contracts of `digits` cite.
pub mod Parted
