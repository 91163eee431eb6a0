pub mod States
pub mod Held
pub mod Growth
pub mod Accounts
pub mod Stocks
pub mod Runs
pub mod Frees
pub mod Changes
