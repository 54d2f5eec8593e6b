-- Leaves and decimals of the worked examples: every coordinate is the time itself.
use Rattle.std.specs.Prelude.{ℤ, pos, neg_ℤ}
use Rattle.spec_text.specs.declared.decimals.Decimal.{Decimal}
use Rattle.spec_intervals.specs.Interval.{narrow}
use Rattle.spec_intervals.specs.Fraction.{Fraction, fraction}
use Rattle.spec_intervals.specs.Enclosure.{Enclosure, middle}
use Rattle.spec_expressions.specs.Term.{Leaf}

abbrev pub clock : Leaf → ℤ → Fraction
clock leaf t = fraction t 1

abbrev pub clock_over : ℤ → ℤ → Leaf → Enclosure
clock_over a b leaf = record { mid = narrow (middle a b) (middle a b) (pos 0); range = narrow a b (pos 0); step = narrow (pos 1) (pos 1) (pos 0) }

-- 0.5
abbrev pub half_of : Decimal
half_of = record { mant = pos 5; exp = neg_ℤ (pos 1) }
