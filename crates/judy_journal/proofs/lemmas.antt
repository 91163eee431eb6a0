-- The lemmas that proofs of other crates may cite. All other files here are private to this crate.
pub mod ReplayLemmas
pub mod LeavingLemmas
pub mod ReachingLemmas
