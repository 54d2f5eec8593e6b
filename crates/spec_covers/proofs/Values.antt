-- The interval of a series at one time is covered, where the sum of its coefficients times its row is.
use Rattle.std.proofs.Common.{ℕ, arith, drop, ℤ, pos, ◌≤ℤ◌}
use Rattle.std.proofs.lemmas.Int.{ints}
use Rattle.spec_chebyshev.specs.Differences.{IsArgument}
use Rattle.spec_chebyshev.specs.Rows.{t_unit, u_unit, t_row, IsArguments}
use Rattle.spec_chebyshev.proofs.Arguments.{IsArguments-argument}
use Rattle.spec_ephemeris.specs.Series.{Series, argument_at}
use Rattle.spec_motions.specs.Sums.{slope_row, sum_low, sum_high}
use Rattle.spec_motions.specs.Enclosures.{IsSeries, IsSpanOf, arguments, coefficients_of, sum_exponent, position_over, velocity_over}
use Rattle.spec_bodies.specs.declared.quantity.Quantity.TheVariants.{Position, Velocity}
use Rattle.spec_bodies.specs.Views.{value_interval}
use Rattle.spec_models.specs.Models.{Model, Covers, widened}
use Rattle.spec_covers.specs.Combining.{ScalesTo, greatest, IsUpto, IsEnough, scaled_loss}
use Rattle.spec_covers.specs.Series.{value_sum}
use Rattle.spec_covers.proofs.Rounded.{Covers-narrow, Covers-scale}

module _ (d : ℕ) (p q : ℤ) (is : IsArgument p q) (s : Series) (t : ℤ) (m : Model) where
  pub Covers-position : IsEnough d m (greatest m) → Covers m p q (value_sum Position s t) → Covers (widened d m) p q (value_interval Position s t t)
  unfolding position_over
  Covers-position enough covers =
      Covers-narrow d p q is m (sum_low (t_row (arguments s t t)) 0 (coefficients_of s)) (sum_high (t_row (arguments s t t)) 0 (coefficients_of s)) (sum_exponent t_unit) covers enough

  pub Covers-velocity : (k : Model) → IsSeries s → ScalesTo s.duration m k → IsUpto d k (scaled_loss (sum_exponent u_unit) m s.duration)
      → Covers m p q (value_sum Velocity s t) → Covers (widened d k) p q (value_interval Velocity s t t)
  unfolding velocity_over
  Covers-velocity k series scales enough covers =
      Covers-scale d p q is m (sum_low (slope_row (arguments s t t)) 1 (drop 1 (coefficients_of s))) (sum_high (slope_row (arguments s t t)) 1 (drop 1 (coefficients_of s))) (sum_exponent u_unit) covers
      s.duration k series.long scales enough

-- the arguments of a time of a series are some
pub IsArguments-at : (s : Series) (c d t : ℤ) → IsSeries s → IsSpanOf s c d → c ≤ℤ t → t ≤ℤ d → IsArguments (arguments s t t)
IsArguments-at s c d t is span after before =
    let long = is.long in
    let first = span.from in
    let last = span.to in
    IsArguments-argument (argument_at s t) (argument_at s t) (pos s.duration) (omega (arith, ints)) (omega (arith, ints)) (omega (arith, ints)) (omega (arith, ints))
