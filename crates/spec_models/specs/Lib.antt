pub mod Inclusion
pub mod Bounds
pub mod Ends
pub mod Models
