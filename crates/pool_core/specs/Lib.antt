pub mod States
pub mod Tiling
pub mod Accounted
pub mod Examples
pub mod Views
pub mod Interleaved
