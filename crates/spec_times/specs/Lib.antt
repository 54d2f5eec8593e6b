pub mod Calendar
pub mod TimeWords
pub mod Ticks
