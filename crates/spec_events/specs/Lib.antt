pub mod Events
pub mod Functions
pub mod Marks
pub mod Verdict
pub mod Soundness
pub mod VerdictExamples
pub mod Stages
