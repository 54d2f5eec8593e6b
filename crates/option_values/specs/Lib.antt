pub mod Readings
pub mod Polynomials
pub mod Parts
