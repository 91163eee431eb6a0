pub mod OneArrays
pub mod LongArrays
