pub mod lemmas
mod Begins
mod Programs
mod Resuming
mod TableLines
