pub mod Names
pub mod Options
pub mod Commands
pub mod Requests
pub mod Examples
pub mod Limits
