mod Reading
mod Pushing
mod Complements
mod Meeting
mod Pairs
mod Leaves
mod Nodes
