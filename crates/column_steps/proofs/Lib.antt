mod Values
mod Pushed
mod Apart
mod Formulas
mod Framed
mod Turned
pub mod Entered
pub mod WholeFormulas
