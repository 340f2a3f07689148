pub mod Writes
pub mod Parts
pub mod Chunks
pub mod Lengths
