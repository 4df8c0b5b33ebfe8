-- What the contracts of `output` cite.
pub mod Lines
