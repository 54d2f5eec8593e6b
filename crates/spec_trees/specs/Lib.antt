pub mod Tree
pub mod Cuts
pub mod Placement
pub mod Windows
pub mod Runs
pub mod Order
pub mod Examples
pub mod CutExamples
