pub mod Rules
pub mod Sums
