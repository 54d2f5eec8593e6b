pub mod SeriesParts
pub mod Sums
pub mod Shared
