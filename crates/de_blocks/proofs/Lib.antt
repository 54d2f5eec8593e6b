pub mod Times
pub mod Large
pub mod OnLines
pub mod Enough
pub mod Steps
pub mod Pushing
pub mod Walking
pub mod Triples
