pub mod Queues
pub mod Told
pub mod Turns
pub mod Whole
