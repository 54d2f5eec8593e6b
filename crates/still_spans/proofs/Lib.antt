mod FollowingShares
mod Doubled
mod SpanBounds
mod Margins
mod Halving
mod FollowingSpans
mod BetweenSpans
pub mod Quieted
