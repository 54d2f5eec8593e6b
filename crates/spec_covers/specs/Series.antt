-- The rows of a series at one time, and the sums of its coefficients times these, as intervals; and the model of its argument.
use Rattle.std.specs.Prelude.{ℕ, ◌^◌, List, [], ◌∷◌, drop, ℤ, pos, neg_ℤ, ◌*ℤ◌, ◌+ℤ◌, ◌-ℤ◌}
use Rattle.spec_numbers.specs.Numbers.{floor_div}
use Rattle.spec_intervals.specs.Interval.{Interval, interval, distance_exponent}
use Rattle.spec_chebyshev.specs.declared.ends.Ival62.{Ival62}
use Rattle.spec_chebyshev.specs.Rows.{t_unit, u_unit, t_row}
use Rattle.spec_ephemeris.specs.Series.{Series}
use Rattle.spec_motions.specs.Sums.{slope_row, sum_low, sum_high}
use Rattle.spec_motions.specs.Enclosures.{arguments, coefficients_of, sum_exponent}
use Rattle.spec_bodies.specs.declared.quantity.Quantity.{Quantity}
use Rattle.spec_bodies.specs.declared.quantity.Quantity.TheVariants.{Position, Velocity}
use Rattle.spec_models.specs.Models.{Model, model}

-- an entry in units of 2^-unit, and a coefficient in its own
abbrev pub of_entry : ℕ → Ival62 → Interval
of_entry unit e = interval e.lo e.hi (neg_ℤ (pos unit))

abbrev pub of_coefficient : Ival62 → Interval
of_coefficient c = interval c.lo c.hi distance_exponent

-- arguments are in units of 2^-60, so twice as many are in units of 2^-59
abbrev pub argument_unit : ℕ
argument_unit = 60

abbrev pub double_unit : ℕ
double_unit = 59

-- ---- the argument of a series at time t of the times from c to d, as p / q goes from -1 to 1 over these
abbrev pub place : ℤ → ℤ → ℤ → ℤ
place c d t = pos 2 *ℤ t -ℤ c -ℤ d

-- that of the middle, times the duration
abbrev pub middle_argument : Series → ℤ → ℤ → ℤ
middle_argument s c d = c +ℤ d -ℤ pos 2 *ℤ s.start -ℤ pos s.duration

-- middle / duration and q / duration as multiples of 2^-60, here in units of 2^-unit
abbrev pub argument_model : ℕ → ℤ → ℤ → ℕ → Model
argument_model unit in_middle q duration =
    model (floor_div (in_middle *ℤ pos (2 ^ 60)) duration ∷ floor_div (q *ℤ pos (2 ^ 60)) duration ∷ []) 3 (neg_ℤ (pos unit))

-- ---- the sum of coefficients times entries from k on, before it is rounded
abbrev pub sums : ℕ → (ℕ → Ival62) → ℕ → List Ival62 → Interval
sums unit row k cs = interval (sum_low row k cs) (sum_high row k cs) (sum_exponent unit)

-- that of a position, and of a velocity before it is divided, at one time
abbrev pub value_sum : Quantity → Series → ℤ → Interval
value_sum Position s t = sums t_unit (t_row (arguments s t t)) 0 (coefficients_of s)
value_sum Velocity s t = sums u_unit (slope_row (arguments s t t)) 1 (drop 1 (coefficients_of s))
