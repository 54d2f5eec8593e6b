pub mod Polynomials
pub mod Sizes
pub mod Quotients
pub mod RowLaws
pub mod RowEnds
pub mod Arguments
pub mod Bounds
