pub mod Suffixes
pub mod Strings
pub mod Lookup
pub mod Changes
pub mod StringArrays
pub mod Searches
pub mod Laws
