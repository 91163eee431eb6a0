-- The lemmas that proofs of other crates may cite. All other files here are this crate's own.
pub mod BitLemmas
pub mod Each
pub mod MemberLaws
pub mod Places
pub mod Searches
pub mod SetLemmas
