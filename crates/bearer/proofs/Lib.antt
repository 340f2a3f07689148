pub mod Sayings
pub mod Unasked
pub mod Cutting
pub mod Carrying
