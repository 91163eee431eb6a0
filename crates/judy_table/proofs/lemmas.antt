-- The lemmas that proofs of other crates may cite. All other files here are private to this crate.
pub mod Meaning
pub mod Faults
pub mod Seats
pub mod Unlimited
pub mod Freezes
