-- Margins: how far the function of a search keeps from 0 at each time of a span, and when its steps are too small to use that
-- up within a node.
use Rattle.std.specs.Prelude.{◌≡◌, true, ◌⊎◌, ℕ, ◌+◌, ◌*◌, ℤ, pos, neg_ℤ, ◌*ℤ◌, ◌≤ℤ◌, ◌<ℤ◌}
use Rattle.spec_intervals.specs.Fraction.{Fraction, IsFraction, fraction}
use Rattle.spec_intervals.specs.Interval.{Interval}
use Rattle.spec_events.specs.Verdict.{is_one_way}
use Rattle.spec_bodies.specs.Views.{Fits, state_enclosure}
use Rattle.spec_searches.specs.Search.{Search, enclosure_over}
use Rattle.spec_models.specs.Bounds.{Bound}
use Rattle.spec_bounds.specs.Terms.{bound_over}
use Rattle.spec_models.specs.Ends.{NoMore, high, in_units, low, size}

-- the interval of the function at one time
abbrev pub range_at : Search → ℤ → Interval
range_at s t = (enclosure_over (state_enclosure s.view) s.event.function t t).range

abbrev pub opposite : Fraction → Fraction
opposite r = fraction (neg_ℤ r.numerator) r.denominator

-- at each time from a to b it is at least g, or at most -g
abbrev pub IsAbove : Search → ℤ → ℤ → Fraction → Type 0
IsAbove s a b g = (t : ℤ) → a ≤ℤ t → t ≤ℤ b → NoMore g (low (range_at s t))

abbrev pub IsBelow : Search → ℤ → ℤ → Fraction → Type 0
IsBelow s a b g = (t : ℤ) → a ≤ℤ t → t ≤ℤ b → NoMore (high (range_at s t)) (opposite g)

pub record HasMargin (s : Search) (a b : ℤ) (g : Fraction) : Type 0 where
  pub positive : pos 0 <ℤ g.numerator
  pub is_fraction : IsFraction g
  pub one_sign : IsAbove s a b g ⊎ IsBelow s a b g

-- r times a whole number
abbrev pub multiple : ℕ → Fraction → Fraction
multiple n r = fraction (r.numerator *ℤ pos n) r.denominator

-- over nodes of at most q units, what the steps add from the middle to an end is at most 31/32 of g; and the unit of the range
-- is at most a 2^10th of g
pub record StepsFit (p : Bound) (q : ℕ) (g : Fraction) : Type 0 where
  pub steps : NoMore (multiple (16 * (q + 1)) (size p.step)) (multiple 31 g)
  pub unit : NoMore (in_units (pos 1024) p.range.s) g

-- times between which no granule begins, over which the function rises or falls by its bound
pub record IsMonotone (s : Search) (c d : ℤ) : Type 0 where
  pub fits : Fits s.view c d
  pub one_way : is_one_way (bound_over s.view s.event.function c d).step ≡ true
