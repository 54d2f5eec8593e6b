pub mod Padded
pub mod Places
pub mod Pieces
pub mod Joining
