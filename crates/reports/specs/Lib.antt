pub mod Endings
pub mod Said
pub mod Effects
pub mod Blanks
