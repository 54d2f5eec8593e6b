pub mod Sound
pub mod Passings
