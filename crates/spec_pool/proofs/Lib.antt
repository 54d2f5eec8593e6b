pub mod Weights
pub mod Finding
pub mod Hands
pub mod Balancing
