pub mod Windowing
pub mod Lasting
pub mod Judging
pub mod Evidence
pub mod Limits
pub mod Stages
