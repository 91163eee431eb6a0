pub mod Played
pub mod Resuming
pub mod Whole
