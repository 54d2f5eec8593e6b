-- The constant factors of the formulas as intervals.
use Rattle.std.specs.Prelude.{◌≡◌}
use Rattle.spec_text.specs.declared.decimals.Decimal.{Decimal}
use Rattle.spec_intervals.specs.Interval.{Interval}
use Rattle.spec_bodies.specs.declared.factor.Factor.{Factor}
use Rattle.spec_bodies.specs.declared.factor.Factor.TheVariants.{MoonShare, Cosine, Sine}
use Rattle.spec_bodies.specs.Meanings.{factor, factor_interval}
use Rattle.body_states.specs.declared.factors.Factors.{Factors}

abbrev pub interval_of : Factors → Factor → Interval
interval_of f MoonShare = f.moon_share
interval_of f Cosine = f.cosine
interval_of f Sine = f.sine

-- by the mass of the Earth over that of the Moon
abbrev pub AreFactors : Decimal → Factors → Type 0
AreFactors ratio f = (which : Factor) → interval_of f which ≡ factor_interval (factor ratio which)
