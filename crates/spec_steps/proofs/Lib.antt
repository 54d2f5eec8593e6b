pub mod Terms
pub mod Meanings
pub mod Parts
mod Within
mod Enclosed
