pub mod Places
pub mod Looks
pub mod Marks
