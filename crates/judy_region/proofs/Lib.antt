pub mod lemmas
mod Places
mod Between
mod Rows
mod Cells
mod Values
mod Walks
