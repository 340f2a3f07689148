pub mod Radio
pub mod Steps
pub mod Runs
pub mod Ledger
pub mod Law
