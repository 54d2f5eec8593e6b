pub mod Columns
pub mod Sizes
pub mod Settled
pub mod Near
pub mod Making
pub mod Margins
pub mod Tangents
pub mod Covering
