pub mod Literals
mod RequestLines
