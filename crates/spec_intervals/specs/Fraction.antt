-- A fraction of whole numbers, and what it is for an interval to hold one.
use Rattle.std.specs.Prelude.{ℕ, ◌*◌, ◌^◌, ◌<◌, ℤ, pos, ◌+ℤ◌, ◌-ℤ◌, ◌*ℤ◌, ◌≤ℤ◌}
use borrow.Author.Differences.{up, down}
use Rattle.spec_intervals.specs.Interval.{Interval, signed_sq}

-- numerator / denominator; one of denominator 0 stands for no number
pub record Fraction : Type 0 where
  pub numerator : ℤ
  pub denominator : ℕ

abbrev pub fraction : ℤ → ℕ → Fraction
fraction n d = record { numerator = n; denominator = d }

abbrev pub IsFraction : Fraction → Type 0
IsFraction r = 0 < r.denominator

-- z * 2^s <= r and r <= z * 2^s, with nothing divided: `up s` and `down s` are s and 0, or 0 and -s
abbrev pub AtMost : ℤ → ℤ → Fraction → Type 0
AtMost z s r = (z *ℤ pos (2 ^ up s * r.denominator)) ≤ℤ (r.numerator *ℤ pos (2 ^ down s))

abbrev pub AtLeast : ℤ → ℤ → Fraction → Type 0
AtLeast z s r = (r.numerator *ℤ pos (2 ^ down s)) ≤ℤ (z *ℤ pos (2 ^ up s * r.denominator))

-- lo * 2^s <= r <= hi * 2^s
pub record Holds (t : Interval) (r : Fraction) : Type 0 where
  pub low : AtMost t.lo t.s r
  pub high : AtLeast t.hi t.s r

-- some number lies in both
pub record Overlaps (x y : Interval) : Type 0 where
  pub common : Fraction
  pub is_fraction : IsFraction common
  pub in_first : Holds x common
  pub in_second : Holds y common

-- exact sums, differences and products
abbrev pub fraction_add : Fraction → Fraction → Fraction
fraction_add a b = fraction (a.numerator *ℤ pos b.denominator +ℤ b.numerator *ℤ pos a.denominator) (a.denominator * b.denominator)

abbrev pub fraction_sub : Fraction → Fraction → Fraction
fraction_sub a b = fraction (a.numerator *ℤ pos b.denominator -ℤ b.numerator *ℤ pos a.denominator) (a.denominator * b.denominator)

abbrev pub fraction_mul : Fraction → Fraction → Fraction
fraction_mul a b = fraction (a.numerator *ℤ b.numerator) (a.denominator * b.denominator)

-- r |r|
abbrev pub fraction_signed_square : Fraction → Fraction
fraction_signed_square r = fraction (signed_sq r.numerator) (r.denominator * r.denominator)

-- 2 r / length
abbrev pub fraction_scale : Fraction → ℕ → Fraction
fraction_scale r length = fraction (pos 2 *ℤ r.numerator) (r.denominator * length)

-- m * 10^q
abbrev pub decimal : ℤ → ℤ → Fraction
decimal m q = fraction (m *ℤ pos (10 ^ up q)) (10 ^ down q)
