pub mod Tenants
pub mod Seats
pub mod Shown
pub mod Meaning
pub mod Faults
pub mod Unlimited
pub mod Blames
pub mod Freezes
