pub mod ColumnTerms
pub mod Meanings
pub mod Parts
pub mod Steps
pub mod Examples
