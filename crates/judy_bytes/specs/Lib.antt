pub mod Buckets
pub mod Chains
pub mod BytesArrays
pub mod Laws
pub mod Orders
pub mod Walks
