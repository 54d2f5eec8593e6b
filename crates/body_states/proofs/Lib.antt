pub mod Masses
pub mod Good
pub mod Entries
pub mod Alone
