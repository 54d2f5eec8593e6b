-- Bounds: what includes an enclosure over every span within a longer one. They are made like enclosures, but for the middle,
-- at which nothing is looked, and for sums, which are taken in the coarser of two units.
use Rattle.std.specs.Prelude.{if◌then◌else◌, ℤ, pos, ◌+ℤ◌, ◌-ℤ◌}
use Rattle.std.specs.Int.{int_max, int_gap}
use Rattle.spec_intervals.specs.Interval.{Interval, is_zero, lift_limit, narrow, negated, product, raised, signed_square, zero_interval}
use Rattle.spec_intervals.specs.Enclosure.{Enclosure, offsets, twice_size}
use Rattle.spec_models.specs.Inclusion.{Includes}

-- what includes every value, and every change from one time to the next
pub record Bound : Type 0 where
  pub range : Interval
  pub step : Interval

-- every part of an enclosure is included
pub record IncludesEnclosure (p : Bound) (e : Enclosure) : Type 0 where
  pub mid : Includes p.range e.mid
  pub range : Includes p.range e.range
  pub step : Includes p.step e.step

-- ---- intervals
-- the interval at an exponent of at least s, rounded outward
abbrev pub at_exponent : ℤ → Interval → Interval
at_exponent s x = raised (int_gap x.s s) x

unfoldable pub coarsened : ℤ → Interval → Interval
coarsened s x = narrow (at_exponent s x).lo (at_exponent s x).hi (at_exponent s x).s

-- the ends added in the coarser of both units
unfoldable pub raised_sum : Interval → Interval → Interval
raised_sum x y =
    narrow
    ((at_exponent (int_max x.s y.s) x).lo +ℤ (at_exponent (int_max x.s y.s) y).lo)
    ((at_exponent (int_max x.s y.s) x).hi +ℤ (at_exponent (int_max x.s y.s) y).hi)
    (int_max x.s y.s)

-- the sum; an interval of 0 alone, whose exponent says nothing, adds nothing
unfoldable pub coarse_sum : Interval → Interval → Interval
coarse_sum x y = if is_zero x then y else (if is_zero y then x else raised_sum x y)

abbrev pub coarse_difference : Interval → Interval → Interval
coarse_difference x y = coarse_sum x (negated y)

-- ---- a bound from its parts, over the times from a to b
-- the values that can be reached from any value by steps
abbrev pub reached : ℤ → ℤ → Interval → Interval → Interval
reached a b range step = coarse_sum range (product step (offsets a b))

-- where a range meets what is reached from the middle, the meet has a unit of at most 2^60 below that of what is reached
unfoldable pub bound : ℤ → ℤ → Interval → Interval → Bound
bound a b range step = record { range = coarsened ((reached a b range step).s -ℤ pos lift_limit) range; step = step }

-- ---- the rules
abbrev pub constant_bound : ℤ → ℤ → Interval → Bound
constant_bound a b c = bound a b c zero_interval

abbrev pub sum_bound : ℤ → ℤ → Bound → Bound → Bound
sum_bound a b p q = bound a b (coarse_sum p.range q.range) (coarse_sum p.step q.step)

abbrev pub difference_bound : ℤ → ℤ → Bound → Bound → Bound
difference_bound a b p q = bound a b (coarse_difference p.range q.range) (coarse_difference p.step q.step)

abbrev pub product_bound : ℤ → ℤ → Bound → Bound → Bound
product_bound a b p q = bound a b (product p.range q.range) (coarse_sum (product p.range q.step) (product q.range p.step))

abbrev pub signed_square_bound : ℤ → ℤ → Bound → Bound
signed_square_bound a b p = bound a b (signed_square p.range) (product (twice_size p.range) p.step)
