-- How far numbers keep from 0, on one side of it.
use Rattle.std.specs.Prelude.{◌≡◌, ◌<◌, pos, neg_ℤ, true, false}
use Rattle.spec_intervals.specs.Fraction.{Fraction, fraction}
use Rattle.spec_models.specs.Ends.{NoMore, in_units}
use Rattle.span_models.specs.declared.margin.Margin.{Margin}

abbrev pub margin_of : Margin → Fraction
margin_of g = in_units (pos g.size) g.exponent

abbrev pub opposite : Fraction → Fraction
opposite g = fraction (neg_ℤ g.numerator) g.denominator

-- r is at least the margin above 0, or at least that much below it
pub record KeepsFrom (g : Margin) (r : Fraction) : Type 0 where
  pub some : 0 < g.size
  pub above : g.is_above ≡ true → NoMore (margin_of g) r
  pub below : g.is_above ≡ false → NoMore r (opposite (margin_of g))
