mod Counted
mod Kept
mod Small
mod Formed
mod Resting
mod Popped
