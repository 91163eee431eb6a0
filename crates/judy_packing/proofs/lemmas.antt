-- The lemmas that proofs of other crates may cite. All other files here are this crate's own.
pub mod Packs
