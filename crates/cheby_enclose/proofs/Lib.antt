pub mod TermLists
pub mod SpanSeries
mod OneSign
pub mod ProductSums
