pub mod Cursor
pub mod Steps
pub mod Parts
pub mod Pieces
pub mod Sizes
pub mod Triples
