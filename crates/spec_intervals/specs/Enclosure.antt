-- Enclosures: what is known of a value over the times from a to b, and the rules by which one is made from others.
-- Times are whole numbers of units, and the step is the change over one unit.
use Rattle.std.specs.Prelude.{ℕ, ◌*◌, ◌^◌, ◌≤◌, max, if◌then◌else◌, ◌≤ℤ◌, ◌<ℤ◌, ℤ, pos, ◌+ℤ◌, ◌-ℤ◌, unsigned_abs}
use lib.Signed.{lt_z}
use Rattle.spec_intervals.specs.Interval.{Interval, interval, zero_interval, end_limit, narrow, sum, difference, product, meet, signed_square}
use Rattle.spec_numbers.specs.Numbers.{floor_div}
use Rattle.spec_intervals.specs.declared.enclosure.Enclosure.{Enclosure as EnclosureOf}
use Rattle.spec_intervals.specs.Fraction.{Fraction, IsFraction, Holds, fraction_sub}

-- what holds the value in the middle, every value, and every change from one time to the next
abbrev pub Enclosure : Type 0
Enclosure = EnclosureOf Interval

abbrev pub triple : Interval → Interval → Interval → Enclosure
triple mid range step = record { mid = mid; range = range; step = step }

abbrev pub middle : ℤ → ℤ → ℤ
middle a b = floor_div (a +ℤ b) 2

-- the change from t to the next time
abbrev pub change : (ℤ → Fraction) → ℤ → Fraction
change exact t = fraction_sub (exact (t +ℤ pos 1)) (exact t)

-- the parts of an enclosure hold what they should of an exact value
pub record IsEnclosure (exact : ℤ → Fraction) (a b : ℤ) (e : Enclosure) : Type 0 where
  pub mid : Holds e.mid (exact (middle a b))
  pub range : (t : ℤ) → a ≤ℤ t → t ≤ℤ b → Holds e.range (exact t)
  pub step : (t : ℤ) → a ≤ℤ t → t <ℤ b → Holds e.step (change exact t)

-- what an enclosure is made of: a mid, a range that is calculated without looking at the middle, and a step
pub record PartsHold (exact : ℤ → Fraction) (a b : ℤ) (in_middle without change_held : Interval) : Type 0 where
  pub mid : Holds in_middle (exact (middle a b))
  pub plain : (t : ℤ) → a ≤ℤ t → t ≤ℤ b → Holds without (exact t)
  pub step : (t : ℤ) → a ≤ℤ t → t <ℤ b → Holds change_held (change exact t)

-- the exact value is a number at each of these times
abbrev pub AllFractions : (ℤ → Fraction) → ℤ → ℤ → Type 0
AllFractions exact a b = (t : ℤ) → a ≤ℤ t → t ≤ℤ b → IsFraction (exact t)

-- some exact value is enclosed
pub record Encloses (a b : ℤ) (e : Enclosure) : Type 0 where
  pub exact : ℤ → Fraction
  pub numbers : AllFractions exact a b
  pub is_enclosure : IsEnclosure exact a b e

-- times for which enclosures are made
abbrev pub time_limit : ℕ
time_limit = 2 ^ 50

pub record IsSpan (a b : ℤ) : Type 0 where
  pub ordered : a ≤ℤ b
  pub first_near : unsigned_abs a ≤ time_limit
  pub last_near : unsigned_abs b ≤ time_limit

-- ends as intervals of the code have them, and an exponent of at most n in size
pub record IsWithin (n : ℕ) (t : Interval) : Type 0 where
  pub lo_small : unsigned_abs t.lo ≤ end_limit
  pub hi_small : unsigned_abs t.hi ≤ end_limit
  pub exponent : unsigned_abs t.s ≤ n

pub record AllWithin (n : ℕ) (e : Enclosure) : Type 0 where
  pub mid : IsWithin n e.mid
  pub range : IsWithin n e.range
  pub step : IsWithin n e.step

-- ---- an enclosure from its parts
-- the times of [a, b] as seen from the middle
abbrev pub offsets : ℤ → ℤ → Interval
offsets a b = interval (a -ℤ middle a b) (b -ℤ middle a b) (pos 0)

-- the values that can be reached from the middle by steps
unfoldable pub centred : ℤ → ℤ → Interval → Interval → Interval
centred a b mid step = sum mid (product step (offsets a b))

-- the range is what the plain range and the centred one both hold; at a single time it is the mid, and nothing changes
unfoldable pub enclosure : ℤ → ℤ → Interval → Interval → Interval → Enclosure
enclosure a b mid plain step =
    if lt_z a b then record { mid = mid; range = meet plain (centred a b mid step); step = step } else record { mid = mid; range = mid; step = zero_interval }

-- ---- the rules: mid, plain range and step of each operation
unfoldable pub constant_of : ℤ → ℤ → Interval → Enclosure
constant_of a b c = enclosure a b c c zero_interval

unfoldable pub sum_of : ℤ → ℤ → Enclosure → Enclosure → Enclosure
sum_of a b e g = enclosure a b (sum e.mid g.mid) (sum e.range g.range) (sum e.step g.step)

unfoldable pub difference_of : ℤ → ℤ → Enclosure → Enclosure → Enclosure
difference_of a b e g = enclosure a b (difference e.mid g.mid) (difference e.range g.range) (difference e.step g.step)

unfoldable pub product_of : ℤ → ℤ → Enclosure → Enclosure → Enclosure
product_of a b e g = enclosure a b (product e.mid g.mid) (product e.range g.range) (sum (product e.range g.step) (product g.range e.step))

-- from 0 to twice the greatest size in an interval; that may be past the limit of an end, so it is narrowed
unfoldable pub twice_size : Interval → Interval
twice_size t = narrow (pos 0) (pos (2 * max (unsigned_abs t.lo) (unsigned_abs t.hi))) t.s

unfoldable pub signed_square_of : ℤ → ℤ → Enclosure → Enclosure
signed_square_of a b e = enclosure a b (signed_square e.mid) (signed_square e.range) (product (twice_size e.range) e.step)
