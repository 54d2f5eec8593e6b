pub mod Scalars
pub mod Quads
pub mod QuadLaws
pub mod Searches
pub mod Examples
