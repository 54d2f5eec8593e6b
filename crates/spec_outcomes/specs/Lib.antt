pub mod Queries
pub mod Refusals
pub mod Outcomes
pub mod Certificates
pub mod Scalars
pub mod ScalarExamples
pub mod Sets
pub mod Asked
