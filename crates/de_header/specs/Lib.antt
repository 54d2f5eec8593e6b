pub mod Rows
pub mod Reader
pub mod SameFile
