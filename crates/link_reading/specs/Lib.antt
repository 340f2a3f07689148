pub mod Layout
pub mod Links
pub mod Adding
pub mod Holding
pub mod Laws
