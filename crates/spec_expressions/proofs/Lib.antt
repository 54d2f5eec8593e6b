pub mod Induction
pub mod Reach
pub mod Clock
pub mod Zeros
