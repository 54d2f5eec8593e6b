pub mod Report
pub mod Summary
pub mod Messages
pub mod Writing
pub mod Runs
