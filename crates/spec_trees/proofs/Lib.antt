pub mod Sides
pub mod Leaves
pub mod Covering
pub mod Cutting
pub mod Ordering
pub mod Rearranged
pub mod Runs
pub mod Placing
