pub mod Closing
pub mod Moves
pub mod Seats
pub mod Indexing
pub mod Views
