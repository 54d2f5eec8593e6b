pub mod Still
pub mod Weights
pub mod StillExamples
pub mod Eager
pub mod ServedTree
pub mod Settled
pub mod Margins
pub mod MarginExamples
