pub mod Answering
pub mod Kinds
