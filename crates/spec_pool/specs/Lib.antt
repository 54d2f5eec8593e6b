pub mod Accounts
pub mod Acts
pub mod History
pub mod Marks
