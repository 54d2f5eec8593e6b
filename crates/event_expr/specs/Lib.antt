pub mod States
pub mod Formulas
pub mod Leaves
