pub mod Rules
pub mod GridLemmas
pub mod BorderLemmas
pub mod ColumnBorders
pub mod PairLists
pub mod StoreLists
pub mod Times
pub mod Small
mod QuickPairs
mod GridTimes
