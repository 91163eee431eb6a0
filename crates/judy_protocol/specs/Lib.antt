pub mod Digits
pub mod Plain
pub mod Sending
pub mod Services
pub mod Serving
pub mod Talks
