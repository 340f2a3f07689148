pub mod Subflows
pub mod Marking
pub mod Highest
pub mod There
