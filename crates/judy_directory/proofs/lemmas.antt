-- The lemmas that proofs of other crates may cite. All other files here are this crate's own.
pub mod Changes
pub mod Left
pub mod Named
pub mod Next
