mod Counting
mod Dealing
mod Stacks
