-- Times that are far from the ends of 64 bits.
use Rattle.std.specs.Prelude.{◌^◌, Option, None, Some, ℤ, pos, neg_ℤ, ◌<ℤ◌, ◌≤ℤ◌}

-- a time in (a, b], with both far from the ends of 64 bits
pub record IsShortAt (a b t : ℤ) : Type 0 where
  pub after : a <ℤ t
  pub upto : t ≤ℤ b
  pub early : neg_ℤ (pos (2 ^ 60)) ≤ℤ a
  pub late : b ≤ℤ pos (2 ^ 60)

abbrev pub IsShort : ℤ → ℤ → Option ℤ → Type 0
IsShort a b None = Unit {0}
IsShort a b (Some t) = IsShortAt a b t
