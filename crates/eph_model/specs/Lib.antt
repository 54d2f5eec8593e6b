pub mod Grids
pub mod Pairs
pub mod Short
pub mod Starting
pub mod Stores
pub mod Quotients
