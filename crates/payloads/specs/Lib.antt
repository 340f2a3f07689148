pub mod Checks
pub mod Payloads
