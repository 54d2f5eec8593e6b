pub mod Pending
pub mod Shares
