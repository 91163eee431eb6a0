pub mod lemmas
mod Asked
mod Counting
mod Forgetting
mod Leaving
mod Replaying
mod Restoring
mod Naming
mod Gathering
mod BegunNamed
mod Tables
mod Replayed
mod Changed
mod Texting
mod Having
