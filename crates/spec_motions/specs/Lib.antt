pub mod Sums
pub mod Enclosures
pub mod RowSizes
pub mod Granules
pub mod Pairs
pub mod Examples
