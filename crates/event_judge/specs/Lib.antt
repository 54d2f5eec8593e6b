pub mod Moments
pub mod Found
pub mod Named
pub mod Memory
pub mod Plain
pub mod Listed
