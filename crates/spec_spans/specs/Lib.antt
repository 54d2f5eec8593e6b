pub mod Joins
pub mod Seams
pub mod Pieces
pub mod Searches
pub mod Examples
