pub mod Points
pub mod Combining
pub mod Series
pub mod Examples
