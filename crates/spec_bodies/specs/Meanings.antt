-- The two meanings of a coordinate's formula, given those of the coordinates of columns: an exact value at each time, and
-- an enclosure over the times from a to b.
use Rattle.std.specs.Prelude.{◌≡◌, ℕ, ◌+◌, ◌*◌, ◌^◌, ℤ, pos, neg_ℤ, ◌*ℤ◌, unsigned_abs}
use borrow.Author.Differences.{up, down}
use Rattle.spec_text.specs.declared.decimals.Decimal.{Decimal}
use Rattle.spec_numbers.specs.Numbers.{floor_div, ceil_div}
use Rattle.spec_intervals.specs.Interval.{Interval, interval, cosine_exponent, zero_interval}
use Rattle.spec_intervals.specs.Fraction.{Fraction, fraction, fraction_add, fraction_sub, fraction_mul, decimal}
use Rattle.spec_intervals.specs.Enclosure.{Enclosure, constant_of, sum_of, difference_of, product_of}
use Rattle.spec_bodies.specs.declared.factor.Factor.{Factor}
use Rattle.spec_bodies.specs.declared.factor.Factor.TheVariants.{MoonShare, Cosine, Sine}
use Rattle.spec_bodies.specs.Coordinates.{Coordinate, nothing, of_column, times, plus, less}

-- ---- the factors
-- 1 / (1 + m 10^q)
abbrev pub share_beside : Decimal → Fraction
share_beside ratio = fraction (pos (10 ^ down ratio.exp)) (10 ^ down ratio.exp + unsigned_abs ratio.mant * 10 ^ up ratio.exp)

-- by the header's mass ratio; the others are those of 84381.448 arc seconds, the obliquity of the ecliptic of J2000 in the
-- IAU 1976 system of constants and in SPICE's ECLIPJ2000, with 15 decimals
abbrev pub factor : Decimal → Factor → Fraction
factor ratio MoonShare = share_beside ratio
factor ratio Cosine = decimal (pos 917482062069182) (neg_ℤ (pos 15))
factor ratio Sine = decimal (pos 397777155931914) (neg_ℤ (pos 15))

-- the exponent of factors is that of cosines: they are in units of 2^-60, rounded outward
abbrev pub factor_unit : ℕ
factor_unit = unsigned_abs cosine_exponent

unfoldable pub factor_interval : Fraction → Interval
factor_interval r =
    interval (floor_div (r.numerator *ℤ pos (2 ^ factor_unit)) r.denominator) (ceil_div (r.numerator *ℤ pos (2 ^ factor_unit)) r.denominator) cosine_exponent

-- ---- the exact value at a time
abbrev pub exact_of : (ℕ → ℕ → ℤ → Fraction) → (Factor → Fraction) → Coordinate → ℤ → Fraction
exact_of column factors nothing t = fraction (pos 0) 1
exact_of column factors (of_column number axis) t = column number axis t
exact_of column factors (times f x) t = fraction_mul (factors f) (exact_of column factors x t)
exact_of column factors (plus x y) t = fraction_add (exact_of column factors x t) (exact_of column factors y t)
exact_of column factors (less x y) t = fraction_sub (exact_of column factors x t) (exact_of column factors y t)

-- ---- the enclosure over the times from a to b
abbrev pub enclosure_of : (ℕ → ℕ → Enclosure) → (Factor → Fraction) → ℤ → ℤ → Coordinate → Enclosure
enclosure_of column factors a b nothing = constant_of a b zero_interval
enclosure_of column factors a b (of_column number axis) = column number axis
enclosure_of column factors a b (times f x) = product_of a b (constant_of a b (factor_interval (factors f))) (enclosure_of column factors a b x)
enclosure_of column factors a b (plus x y) = sum_of a b (enclosure_of column factors a b x) (enclosure_of column factors a b y)
enclosure_of column factors a b (less x y) = difference_of a b (enclosure_of column factors a b x) (enclosure_of column factors a b y)

-- two fractions are one number
abbrev pub AreEqual : Fraction → Fraction → Type 0
AreEqual r t = r.numerator *ℤ pos t.denominator ≡ t.numerator *ℤ pos r.denominator

-- two formulas have one exact value, whatever the columns and the factors
abbrev pub AlwaysAgree : Coordinate → Coordinate → Type 0
AlwaysAgree c d = (column : ℕ → ℕ → ℤ → Fraction) (factors : Factor → Fraction) (t : ℤ) → AreEqual (exact_of column factors c t) (exact_of column factors d t)
