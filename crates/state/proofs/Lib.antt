-- Laws about the state of a run: `runner` cites the public ones.
pub mod Tables
pub mod Steps
mod Rows
pub mod Arms
