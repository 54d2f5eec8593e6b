-- The intervals of position and velocity over a span of times within one granule, and those of their changes from each
-- time to the next. Positions are in km and velocities in km per second.
use Rattle.std.specs.Prelude.{ℕ, suc, ◌+◌, ◌*◌, ◌^◌, ◌≤◌, List, [], ◌∷◌, length, map, drop, All, ℤ, pos, unsigned_abs, ◌+ℤ◌, ◌-ℤ◌, ◌*ℤ◌, ◌≤ℤ◌, ◌<ℤ◌, if◌then◌else◌}
use borrow.Author.Differences.{up, down}
use lib.Signed.{lt_z}
use Rattle.spec_text.specs.declared.decimals.Decimal.{Decimal}
use Rattle.spec_intervals.specs.Interval.{Interval, distance_exponent, zero_interval, narrow, scale}
use Rattle.spec_numbers.specs.Numbers.{floor_div, ceil_div}
use Rattle.spec_intervals.specs.Fraction.{Fraction, Holds}
use Rattle.spec_intervals.specs.Enclosure.{change}
use Rattle.spec_chebyshev.specs.declared.ends.Ival62.{Ival62}
use Rattle.spec_chebyshev.specs.Rows.{t_unit, u_unit, q_unit, r_unit, t_row, q_row, argument_of}
use Rattle.spec_ephemeris.specs.Series.{Series, argument_at, scaled}
use Rattle.spec_ephemeris.specs.Ephemeris.{IsBodyNumber}
use Rattle.spec_motions.specs.Sums.{coefficient, slope_row, slope_difference_row, sum_low, sum_high}

-- ---- what a row of intervals of coefficients gives over an interval of arguments, for a granule of some length.
-- the exponent of a sum of coefficients, which are in the unit of distances, times the entries of a row in units of 2^-unit
abbrev pub sum_exponent : ℕ → ℤ
sum_exponent unit = distance_exponent -ℤ pos unit

unfoldable pub position_over : List Ival62 → Ival62 → Interval
position_over cs x = narrow (sum_low (t_row x) 0 cs) (sum_high (t_row x) 0 cs) (sum_exponent t_unit)

-- one second is 2 / length in the argument
unfoldable pub position_step_over : List Ival62 → Ival62 → ℕ → Interval
position_step_over cs x length = scale (sum_low (q_row x) 0 cs) (sum_high (q_row x) 0 cs) (sum_exponent q_unit) length

-- the sum begins with c_1 U_0
unfoldable pub velocity_over : List Ival62 → Ival62 → ℕ → Interval
velocity_over cs x length = scale (sum_low (slope_row x) 1 (drop 1 cs)) (sum_high (slope_row x) 1 (drop 1 cs)) (sum_exponent u_unit) length

-- scaled twice, the first time without narrowing; R_0 is 0, so that the sum begins in effect with 2 c_2 R_1
unfoldable pub velocity_step_over : List Ival62 → Ival62 → ℕ → Interval
velocity_step_over cs x length =
    scale
    (floor_div (pos 2 *ℤ sum_low (slope_difference_row x) 1 (drop 1 cs)) length)
    (ceil_div (pos 2 *ℤ sum_high (slope_difference_row x) 1 (drop 1 cs)) length)
    (sum_exponent r_unit)
    length

-- ---- the same of a series from time a to time b
abbrev pub coefficients_of : Series → List Ival62
coefficients_of s = map coefficient s.coefficients

abbrev pub arguments : Series → ℤ → ℤ → Ival62
arguments s a b = argument_of (argument_at s a) (argument_at s b) (pos s.duration)

abbrev pub position_interval : Series → ℤ → ℤ → Interval
position_interval s a b = position_over (coefficients_of s) (arguments s a b)

abbrev pub velocity_interval : Series → ℤ → ℤ → Interval
velocity_interval s a b = velocity_over (coefficients_of s) (arguments s a b) s.duration

-- over one time nothing changes
abbrev pub position_step_interval : Series → ℤ → ℤ → Interval
position_step_interval s a b =
    if lt_z a b then position_step_over (coefficients_of s) (arguments s a b) s.duration else zero_interval

abbrev pub velocity_step_interval : Series → ℤ → ℤ → Interval
velocity_step_interval s a b =
    if lt_z a b then velocity_step_over (coefficients_of s) (arguments s a b) s.duration else zero_interval

-- ---- the series and the spans for which these hold the exact values
pub record IsSeries (s : Series) : Type 0 where
  pub long : 1 ≤ s.duration
  pub some : 1 ≤ length s.coefficients
  pub few : length s.coefficients ≤ 32
  pub bodies : All IsBodyNumber s.coefficients

pub record IsSpanOf (s : Series) (a b : ℤ) : Type 0 where
  pub from : s.start ≤ℤ a
  pub ordered : a ≤ℤ b
  pub to : b ≤ℤ (s.start +ℤ pos s.duration)

-- an interval holds a quantity at each time from a to b
abbrev pub HoldsEach : (ℤ → Fraction) → ℤ → ℤ → Interval → Type 0
HoldsEach exact a b i = (t : ℤ) → a ≤ℤ t → t ≤ℤ b → Holds i (exact t)

-- and its change from each time to the next
abbrev pub HoldsChanges : (ℤ → Fraction) → ℤ → ℤ → Interval → Type 0
HoldsChanges exact a b i = (t : ℤ) → a ≤ℤ t → t <ℤ b → Holds i (change exact t)

-- ---- how wide a position at one time is at most, in km: the sum of |c_k| 3^(k+1) 2^-59, and (n + 2) 2^-23 for n
-- coefficients
-- the sum of |c_k| 3^(k+1) from k on, in units of 10^-140
abbrev pub spread : ℕ → List Decimal → ℕ
spread k [] = 0
spread k (c ∷ cs) = unsigned_abs (scaled c) * 3 ^ suc k + spread (suc k) cs

-- (hi - lo) 2^s is at most that, times 10^140 2^59
abbrev pub IsTight : List Decimal → Interval → Type 0
IsTight cs t =
    ((t.hi -ℤ t.lo) *ℤ pos (2 ^ up t.s * (10 ^ 140 * 2 ^ 59))) ≤ℤ pos ((spread 0 cs + (length cs + 2) * (2 ^ 36 * 10 ^ 140)) * 2 ^ down t.s)
