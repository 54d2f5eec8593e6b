pub mod Event
pub mod Search
pub mod Found
