pub mod Dates
pub mod Steps
pub mod Reader
pub mod SameFile
