pub mod Reduced
pub mod Steps
pub mod Linear
