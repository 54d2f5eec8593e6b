-- Draws: a state of 64 bits is multiplied and added to, and its upper half is what is drawn.
use Rattle.std.specs.Prelude.{◌≡◌, ℕ, zero, suc, ◌+◌, ◌-◌, ◌*◌, ◌/◌, ◌%◌, ◌^◌, min}
use Rattle.spec_generated.specs.declared.limits.TheConstants.{DRAWS, FACTOR, INCREMENT}

abbrev pub next_state : ℕ → ℕ
next_state state = (state * FACTOR + INCREMENT) % 2 ^ 64

-- the state after so many draws
unfoldable pub state_after : ℕ → ℕ → ℕ
state_after state zero = state
state_after state (suc draws) = next_state (state_after state draws)

-- what is drawn with this state: a number below 2^32
abbrev pub drawn : ℕ → ℕ
drawn state = state / 2 ^ 32

-- the draws of a block up to this place and with it: the first two places are dates and take none, and the places after
-- the last number take none
abbrev pub draws_upto : ℕ → ℕ
draws_upto place = min (place - 2) DRAWS

-- the state now, in a block that begins with this state, after the draws up to this place
abbrev pub IsUpto : ℕ → ℕ → ℕ → Type 0
IsUpto state place now = now ≡ state_after state (draws_upto place)
