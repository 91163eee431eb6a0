pub mod Kinds
pub mod Calls
pub mod Counts
pub mod Laws
