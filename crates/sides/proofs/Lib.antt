-- Laws about many right sides.
pub mod Cells
mod InC
mod InRows
mod Rows
mod Ways
