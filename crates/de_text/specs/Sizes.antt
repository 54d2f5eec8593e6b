-- Numbers of at most 128 bits.
use Rattle.std.specs.Prelude.{ℕ, ◌-◌, ◌^◌, min, Option, None, Some}

-- a number that is past 128 bits counts as the greatest one of them
abbrev pub capped : Option ℕ → Option ℕ
capped None = None
capped (Some n) = Some (min n (2 ^ 128 - 1))
