pub mod Edges
pub mod States
pub mod Entries
