pub mod Sources
pub mod Coordinates
pub mod Meanings
pub mod Views
pub mod Reading
pub mod Examples
