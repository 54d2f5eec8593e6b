pub mod Polynomials
pub mod Differences
pub mod Rows
pub mod Examples
