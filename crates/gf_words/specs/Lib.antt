pub mod Readings
pub mod Parts
pub mod Commands
pub mod Answers
