-- The lemmas that proofs of other crates may cite. All other files here are private to this crate.
pub mod Inputs
pub mod Worlds
pub mod Words
pub mod Results
pub mod Servers
pub mod Bytes
