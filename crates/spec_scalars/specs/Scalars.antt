-- Scalars: whole numbers that change with time, and what is known of one over a span of times.
use Rattle.std.specs.Prelude.{◌^◌, ℤ, pos, neg_ℤ, ◌+ℤ◌, ◌-ℤ◌, ◌≤ℤ◌, ◌<ℤ◌}
use Rattle.spec_scalars.specs.declared.reach.Reach.{Reach}

-- from time a to time b the scalar keeps between two bounds, and its change from each time to the next between two others
pub record IsReach (at : ℤ → ℤ) (a b : ℤ) (r : Reach) : Type 0 where
  pub low : (t : ℤ) → a ≤ℤ t → t ≤ℤ b → r.lo ≤ℤ at t
  pub high : (t : ℤ) → a ≤ℤ t → t ≤ℤ b → at t ≤ℤ r.hi
  pub step_low : (t : ℤ) → a ≤ℤ t → t <ℤ b → r.step_lo ≤ℤ (at (t +ℤ pos 1) -ℤ at t)
  pub step_high : (t : ℤ) → a ≤ℤ t → t <ℤ b → (at (t +ℤ pos 1) -ℤ at t) ≤ℤ r.step_hi

-- a scalar: the first and the last of its times, its value at each of them, and what is known of it over each span of them
pub record Scalar : Type 0 where
  pub first : ℤ
  pub last : ℤ
  pub at : ℤ → ℤ
  pub reach : ℤ → ℤ → Reach

-- what is known of it is so
abbrev pub KeepsReach : Scalar → Type 0
KeepsReach s = (a b : ℤ) → s.first ≤ℤ a → a ≤ℤ b → b ≤ℤ s.last → IsReach s.at a b (s.reach a b)

-- of which what is known is so, and whose times are at most 2^50 in magnitude
pub record IsScalar (s : Scalar) : Type 0 where
  pub low : neg_ℤ (pos (2 ^ 50)) ≤ℤ s.first
  pub high : s.last ≤ℤ pos (2 ^ 50)
  pub keeps : KeepsReach s

-- the same scalar, of which fewer times are asked
abbrev pub within : ℤ → ℤ → Scalar → Scalar
within first last s = record { first = first; last = last; at = s.at; reach = s.reach }
