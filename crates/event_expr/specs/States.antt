-- The times of a span, and the limits of exponents.
use Rattle.std.specs.Prelude.{ℕ, ℤ}

-- the greatest size of an exponent that states answer
abbrev pub state_exponent : ℕ
state_exponent = 256

-- a first and a last time
pub record Times : Type 0 where
  pub first : ℤ
  pub last : ℤ

-- the greatest exponent of what a rule makes of the parts of its operands
abbrev pub wide_exponent : ℕ
wide_exponent = 48064
