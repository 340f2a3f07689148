pub mod Moves
pub mod Exchanging
pub mod Courses
