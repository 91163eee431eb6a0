pub mod Entries
pub mod Linear
pub mod Bytes
pub mod Leaf
pub mod Calls
pub mod Keys
pub mod Views
pub mod Laws
