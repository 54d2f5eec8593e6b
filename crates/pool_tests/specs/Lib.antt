pub mod Judges
pub mod Laws
pub mod Ledgers
pub mod Named
