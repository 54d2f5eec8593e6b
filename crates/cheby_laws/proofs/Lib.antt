mod Filling
mod Limits
