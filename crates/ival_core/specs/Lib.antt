pub mod Aligned
pub mod Raised
