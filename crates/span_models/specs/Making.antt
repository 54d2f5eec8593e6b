-- The middle of an interval.
use Rattle.std.specs.Prelude.{ℕ, ℤ, pos, ◌+ℤ◌, ◌-ℤ◌, ◌≤ℤ◌}

-- both ends are within a distance of the middle
pub record IsMiddle (lo hi middle : ℤ) (distance : ℕ) : Type 0 where
  pub low : (middle -ℤ pos distance) ≤ℤ lo
  pub high : hi ≤ℤ (middle +ℤ pos distance)
  pub ordered : lo ≤ℤ hi
