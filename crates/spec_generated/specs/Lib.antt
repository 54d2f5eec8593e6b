pub mod Draws
pub mod Coefficients
pub mod Words
pub mod Blocks
pub mod Generated
