pub mod Bearing
pub mod Errors
pub mod Traffics
pub mod Allowing
pub mod Ledgers
pub mod Chosen
