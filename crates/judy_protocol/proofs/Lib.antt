pub mod lemmas
mod FieldCuts
pub mod KnownBytes
mod Digits
mod Texts
mod NoCommands
mod Spelled
pub mod Turned
pub mod Talking
pub mod Ending
