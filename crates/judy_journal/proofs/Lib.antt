pub mod lemmas
mod Lines
mod Fronts
mod Reaching
mod Recovering
mod Pushing
mod Writing
pub mod Noticing
mod Stepping
mod Stopping
mod Damaging
mod Crashing
mod Gathering
mod Unpacking
mod Standing
pub mod Steps
