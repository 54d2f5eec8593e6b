pub mod Coarser
pub mod Wanted
pub mod Reached
pub mod Walks
