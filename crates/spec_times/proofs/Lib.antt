pub mod Dates
pub mod Texts
pub mod Times
mod Worked
mod Words
pub mod Ticks
