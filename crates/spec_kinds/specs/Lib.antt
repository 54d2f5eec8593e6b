pub mod Vectors
pub mod Shadows
pub mod Kinds
pub mod Table
pub mod Asks
pub mod Faults
pub mod Searches
pub mod Examples
