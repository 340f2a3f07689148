pub mod Rows
pub mod Openings
pub mod Contents
pub mod Tables
pub mod Drafts
pub mod Closing
