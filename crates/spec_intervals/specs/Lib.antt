pub mod Interval
pub mod Fraction
pub mod Signs
pub mod Enclosure
pub mod Examples
