pub mod Places
pub mod Shelf
pub mod Rooms
pub mod Recent
pub mod Kinds
pub mod Secrets
pub mod Lengths
pub mod Order
