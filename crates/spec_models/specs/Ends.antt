-- The ends of an interval as exact numbers, and how far rounding outward carries them.
use Rattle.std.specs.Prelude.{◌≡◌, ℕ, ◌*◌, ◌^◌, max, ℤ, pos, ◌*ℤ◌, ◌≤ℤ◌, unsigned_abs}
use borrow.Author.Differences.{up, down}
use Rattle.spec_intervals.specs.Interval.{Interval, interval}
use Rattle.spec_intervals.specs.Fraction.{Fraction, fraction, fraction_add, fraction_mul, fraction_scale, fraction_sub}

-- a <= b, with nothing divided
abbrev pub NoMore : Fraction → Fraction → Type 0
NoMore a b = (a.numerator *ℤ pos b.denominator) ≤ℤ (b.numerator *ℤ pos a.denominator)

-- z * 2^s
abbrev pub in_units : ℤ → ℤ → Fraction
in_units z s = fraction (z *ℤ pos (2 ^ up s)) (2 ^ down s)

-- the ends, and the greater of their sizes
abbrev pub low : Interval → Fraction
low x = in_units x.lo x.s

abbrev pub high : Interval → Fraction
high x = in_units x.hi x.s

abbrev pub greatest_end : Interval → ℕ
greatest_end x = max (unsigned_abs x.lo) (unsigned_abs x.hi)

abbrev pub size : Interval → Fraction
size x = in_units (pos (greatest_end x)) x.s

-- r / 2^58
abbrev pub slight : Fraction → Fraction
slight r = fraction r.numerator (r.denominator * 2 ^ 58)

-- what scaling may lose: two units, and a little of what is scaled
abbrev pub scale_loss : ℤ → ℤ → ℤ → ℕ → Fraction
scale_loss lo hi s length = fraction_add (in_units (pos 2) s) (slight (fraction_scale (size (interval lo hi s)) length))

-- r - d <= z <= r
pub record Under (d z r : Fraction) : Type 0 where
  pub near : NoMore (fraction_sub r d) z
  pub below : NoMore z r

-- r <= z <= r + d
pub record Over (d z r : Fraction) : Type 0 where
  pub above : NoMore r z
  pub near : NoMore z (fraction_add r d)

-- r is the product of an end of x and an end of y
pub data IsCorner (x y : Interval) (r : Fraction) : Type 0 where
  low_low : r ≡ fraction_mul (low x) (low y) → IsCorner x y r
  low_high : r ≡ fraction_mul (low x) (high y) → IsCorner x y r
  high_low : r ≡ fraction_mul (high x) (low y) → IsCorner x y r
  high_high : r ≡ fraction_mul (high x) (high y) → IsCorner x y r

-- the low end of t is near a product of ends and no more than it, and its high end near one and no less
pub record IsCornerUnder (d : Fraction) (t x y : Interval) : Type 0 where
  pub corner : Fraction
  pub is_corner : IsCorner x y corner
  pub under : Under d (low t) corner

pub record IsCornerOver (d : Fraction) (t x y : Interval) : Type 0 where
  pub corner : Fraction
  pub is_corner : IsCorner x y corner
  pub over : Over d (high t) corner

abbrev pub IsOrdered : Interval → Type 0
IsOrdered x = x.lo ≤ℤ x.hi
