pub mod Borders
pub mod Parts
pub mod Evidence
pub mod Finding
