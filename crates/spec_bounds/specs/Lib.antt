pub mod Terms
pub mod Steady
pub mod Quiet
pub mod Limits
