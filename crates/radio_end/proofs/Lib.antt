pub mod Starting
pub mod Going
pub mod Requesting
pub mod Hearing
pub mod Passing
pub mod Running
mod Examples
