-- The lemmas that proofs of other crates may cite. All other files here are this crate's own.
pub mod BranchLaws
pub mod Clearing
pub mod Counts
pub mod Finds
pub mod Heads
pub mod Joins
pub mod PartLaws
pub mod RootLaws
pub mod Trees
pub mod Unchanged
