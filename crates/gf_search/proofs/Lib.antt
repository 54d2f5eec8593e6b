pub mod Outcomes
pub mod Windows
mod Times
mod Joining
mod Ends
pub mod Asked
