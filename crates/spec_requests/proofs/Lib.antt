pub mod OnLiterals
pub mod LimitLemmas
pub mod NameLemmas
