pub mod Dividers
pub mod Factors
pub mod Moments
pub mod Ranges
