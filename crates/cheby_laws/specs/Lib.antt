pub mod Recurrences
pub mod Rules
