pub mod Decimal
pub mod Splitting
