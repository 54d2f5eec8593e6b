pub mod Complements
pub mod Meeting
pub mod Adding
pub mod Walking
