pub mod Layout
pub mod Shelves
pub mod Calls
