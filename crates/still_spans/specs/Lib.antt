pub mod Joined
pub mod Knowledge
pub mod Found
