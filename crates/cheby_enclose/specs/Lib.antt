pub mod EmptyRow
pub mod OrderedRows
pub mod ProductSizes
pub mod Spans
