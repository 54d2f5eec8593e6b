pub mod Order
pub mod Stands
pub mod Below
pub mod EndSigns
pub mod Manners
pub mod Signs
