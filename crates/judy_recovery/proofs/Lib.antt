mod Chaining
mod Lines
mod Playing
pub mod Standing
