mod Near
mod Looking
mod Remembered
mod Guards
mod Bounds
pub mod UnitNodes
