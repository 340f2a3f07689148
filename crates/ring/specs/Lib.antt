pub mod Round
pub mod Sizes
pub mod Packed
