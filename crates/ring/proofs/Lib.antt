pub mod Packs
pub mod Pastes
