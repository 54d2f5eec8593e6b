use Rattle.std.proofs.Common.{◌≡◌, ◌⊎◌, inl, inr, ◌*◌, ◌^◌, refl, subst, arith, ℤ, pos, Bool, true, false}
use Rattle.std.specs.Prelude.{if◌then◌else◌}
use lib.Signed.{lt_z}
use Rattle.std.proofs.lemmas.Int.{ints}
use Rattle.spec_numbers.proofs.Order.{lin}
use Rattle.spec_numbers.specs.Numbers.{minus}
use Rattle.spec_intervals.specs.Enclosure.{centred, constant_of, enclosure, triple}
use Rattle.spec_intervals.specs.Fraction.{Fraction, fraction}
use Rattle.spec_intervals.specs.Interval.{Interval, from_decimal, interval, meet, zero_interval}
use Rattle.spec_searches.specs.Search.{Search}
use Rattle.spec_models.specs.Ends.{NoMore, high, low}
use Rattle.spec_stills.specs.Margins.{IsAbove, IsBelow, opposite, range_at}
use Rattle.spec_stills.specs.MarginExamples.{level}
use Rattle.spec_stills.proofs.margin_examples.constant_functions_have_their_magnitude_as_margin.Goals as goal

-- at one time the range of a constant is that constant
constant_range : (t : ℤ) (c : Interval) → (constant_of t t c).range ≡ c
unfolding constant_of enclosure
constant_range t c = by (lt_z t t) refl
  where
    by : (later : Bool) → lt_z t t ≡ later
        → (if later then triple c (meet c (centred t t c zero_interval)) zero_interval else triple c c zero_interval).range ≡ c
    by true e = absurd (omega (arith, lin))
    by false e = refl

abbrev five : Interval
five = interval (pos (5 * 2 ^ 24)) (pos (5 * 2 ^ 24)) (minus 24)

abbrev five_below : Interval
five_below = interval (minus (5 * 2 ^ 24)) (minus (5 * 2 ^ 24)) (minus 24)

range_above : (s : Search) (t : ℤ) → range_at (level (pos 5) s) t ≡ five
unfolding from_decimal
range_above s t = constant_range t five

range_below : (s : Search) (t : ℤ) → range_at (level (minus 5) s) t ≡ five_below
unfolding from_decimal
range_below s t = constant_range t five_below

is_above : (s : Search) (a b : ℤ) → IsAbove (level (pos 5) s) a b (fraction (pos 5) 1)
is_above s a b t from upto = rw (range_above s t) (omega (arith, ints))

is_below : (s : Search) (a b : ℤ) → IsBelow (level (minus 5) s) a b (fraction (pos 5) 1)
is_below s a b t from upto = rw (range_below s t) (omega (arith, ints))

abbrev six : Fraction
six = fraction (pos 6) 1

-- 5 is not at least 6
not_above : (s : Search) → IsAbove (level (pos 5) s) (pos 0) (pos 64) six → ⊥
not_above s above = refuted (subst (λ x. NoMore six (low x)) (range_above s (pos 0)) at_first)
  where
    at_first : NoMore six (low (range_at (level (pos 5) s) (pos 0)))
    at_first = above (pos 0) (omega (arith, ints)) (omega (arith, ints))

    refuted : NoMore six (low five) → ⊥
    refuted h = absurd (omega (arith, ints))

-- and not at most -6
not_below : (s : Search) → IsBelow (level (pos 5) s) (pos 0) (pos 64) six → ⊥
not_below s below = refuted (subst (λ x. NoMore (high x) (opposite six)) (range_above s (pos 0)) at_first)
  where
    at_first : NoMore (high (range_at (level (pos 5) s) (pos 0))) (opposite six)
    at_first = below (pos 0) (omega (arith, ints)) (omega (arith, ints))

    refuted : NoMore (high five) (opposite six) → ⊥
    refuted h = absurd (omega (arith, ints))

no_six : (s : Search) → IsAbove (level (pos 5) s) (pos 0) (pos 64) six ⊎ IsBelow (level (pos 5) s) (pos 0) (pos 64) six → ⊥
no_six s (inl above) = not_above s above
no_six s (inr below) = not_below s below

pub returns-clause-range : goal.returns-clause-range
returns-clause-range c = λ s. range_above s (pos 7)

pub returns-clause-above : goal.returns-clause-above
returns-clause-above c = λ s. record {
  positive = omega (arith, ints);
  is_fraction = omega arith;
  one_sign = inl (is_above s (pos 0) (pos 64));
}

pub returns-clause-below : goal.returns-clause-below
returns-clause-below c = λ s. record {
  positive = omega (arith, ints);
  is_fraction = omega arith;
  one_sign = inr (is_below s (pos 0) (pos 64));
}

pub returns-clause-no_more : goal.returns-clause-no_more
returns-clause-no_more c = λ s h. no_six s h.one_sign
