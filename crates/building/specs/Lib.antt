pub mod Building
pub mod Control
pub mod UserData
pub mod Rates
