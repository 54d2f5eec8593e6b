mod Digits
mod Forms
mod Dates
mod Products
mod Appended
pub mod Seconds
