mod Rules
mod Constants
mod SquareSigns
mod Rests
mod SignTerms
mod Steps
pub mod Like
pub mod RowSteps
pub mod RowCovers
pub mod SumCovers
pub mod RowStarts
mod Entries
mod AxisValues
mod GranuleLines
mod LostUnits
mod SlopeRows
