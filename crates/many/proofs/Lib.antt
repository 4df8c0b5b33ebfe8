-- Laws about many right sides in one pass.
mod Going
mod Own
mod Passing
mod Calls
mod Cleared
mod Side
mod Report
