pub mod Term
pub mod Code
pub mod Vectors
pub mod ExpressionExamples
