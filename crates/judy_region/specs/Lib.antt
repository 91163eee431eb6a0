pub mod Flat
pub mod Parts
pub mod Ownership
pub mod LendingWords
pub mod LendingChunk
pub mod LendingRegion
