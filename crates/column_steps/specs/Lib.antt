pub mod Listed
pub mod Places
pub mod Values
pub mod Squares
