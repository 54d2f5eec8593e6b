mod Faults
mod Rules
mod Pairs
mod Filling
mod Answering
mod Asking
