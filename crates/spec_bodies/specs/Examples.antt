-- A block of four columns, in which the Moon's x alone moves.
use Rattle.std.specs.Prelude.{◌≡◌, ℕ, zero, suc, List, [], ◌∷◌, ◌++◌, ℤ, pos, neg_ℤ, ◌*ℤ◌}
use Rattle.spec_text.specs.declared.decimals.Decimal.{Decimal}
use Rattle.spec_intervals.specs.Interval.{Interval}
use Rattle.spec_intervals.specs.Fraction.{Fraction}
use Rattle.spec_ephemeris.specs.declared.body.Body.TheVariants.{Earth, Ssb}
use Rattle.spec_ephemeris.specs.Ephemeris.{Ephemeris}
use Rattle.spec_ephemeris.specs.Examples.{four_columns, whole}
use Rattle.spec_bodies.specs.declared.frame.Frame.TheVariants.{Eq}
use Rattle.spec_bodies.specs.declared.quantity.Quantity.TheVariants.{Position}
use Rattle.spec_bodies.specs.Views.{View, view_of, coordinate_enclosure}

-- a fraction is this many km
abbrev pub IsKm : Fraction → ℤ → Type 0
IsKm r km = r.numerator ≡ km *ℤ pos r.denominator

abbrev pub zeros : ℕ → List Decimal
zeros zero = []
zeros (suc n) = whole (pos 0) ∷ zeros n

-- Mercury, the Earth-Moon barycentre, the Moon and the Sun, of which the Moon's x is 82 (t - 1339200) km
abbrev pub moving_moon : Ephemeris
moving_moon = record {
  header = four_columns;
  start = neg_ℤ (pos 43200);
  blocks = 1;
  numbers = zeros 15 ++ whole (pos 113356800) ∷ zeros 10;
}

abbrev pub earth_from_centre : View
earth_from_centre = view_of moving_moon (Earth ∷ Earth ∷ []) Ssb Eq

-- the enclosure of the Earth's x at one time, in km
abbrev pub earth_x : ℤ → Interval
earth_x t = (coordinate_enclosure earth_from_centre Position 0 0 t t).range
