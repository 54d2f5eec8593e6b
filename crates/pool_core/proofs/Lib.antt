mod Moving
mod Keeping
mod Falling
mod Ending
mod Beginning
mod Accounting
mod RunBalances
mod Stepping
mod Interleaving
pub mod Interleaved
mod Telling
mod Exchanging
