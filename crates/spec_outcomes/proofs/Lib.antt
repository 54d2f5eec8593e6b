pub mod TextStatuses
pub mod Searching
pub mod Following
pub mod Results
pub mod SpanTimes
pub mod Passings
pub mod SetSigns
pub mod SetOutcomes
mod Counting
mod Cutting
