pub mod Errors
pub mod Reader
pub mod Read
