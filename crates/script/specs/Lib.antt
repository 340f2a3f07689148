pub mod Words
pub mod Numbers
pub mod Names
pub mod Marks
pub mod Reasons
