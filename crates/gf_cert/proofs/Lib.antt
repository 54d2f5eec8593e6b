mod Digits
mod Placing
mod Walking
mod Outcomes
mod Fitting
