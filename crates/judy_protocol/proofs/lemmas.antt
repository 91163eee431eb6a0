-- The lemmas that proofs of other crates may cite. All other files here are private to this crate.
pub mod Worlds
pub mod SendingLaws
pub mod Endings
pub mod Greets
pub mod ShortLines
