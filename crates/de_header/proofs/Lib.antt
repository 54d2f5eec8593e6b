pub mod Names
pub mod ColumnLoops
pub mod Runs
pub mod Steps
pub mod Ending
