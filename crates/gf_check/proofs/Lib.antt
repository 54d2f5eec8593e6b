pub mod Verified
pub mod Accepting
