pub mod Tests
pub mod Served
pub mod Formulas
pub mod Searching
