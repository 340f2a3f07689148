pub mod Rows
pub mod Adds
pub mod Fitting
pub mod Parts
pub mod Tabled
pub mod Opens
