mod Found
mod Given
mod Steps
mod Cuts
