pub mod Meaning
pub mod Circle
pub mod Runs
pub mod Sent
pub mod Sizes
pub mod Stores
