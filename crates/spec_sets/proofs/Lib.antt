pub mod Members
pub mod Unique
pub mod Runs
pub mod Telling
pub mod Marks
pub mod Sets
pub mod Points
mod Exact
