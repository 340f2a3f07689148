pub mod Limiting
pub mod Books
pub mod Asked
pub mod Answers
pub mod Asking
pub mod Slots
pub mod Course
