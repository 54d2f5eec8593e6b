pub mod Fine
pub mod Made
pub mod Spans
