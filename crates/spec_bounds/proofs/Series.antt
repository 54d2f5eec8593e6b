-- The intervals of a series over a span include those over each shorter span within it.
use Rattle.std.proofs.Common.{◌≡◌, ℕ, ◌<◌, arith, refl, Bool, true, false, List, drop, ℤ, ◌≤ℤ◌, ◌<ℤ◌}
use lib.Signed.{lt_z}
use Rattle.spec_numbers.proofs.Order.{lin}
use Rattle.spec_chebyshev.specs.declared.ends.Ival62.{Ival62}
use Rattle.spec_chebyshev.specs.Rows.{ends, t_unit, u_unit, q_unit, r_unit, t_row, u_row, q_row, r_row, IsArguments}
use Rattle.spec_chebyshev.proofs.RowEnds.{t_ordered, u_ordered, q_ordered, r_ordered}
use Rattle.spec_ephemeris.specs.Series.{Series}
use Rattle.spec_motions.specs.Sums.{slope_row, slope_difference_row, sum_low, sum_high}
use Rattle.spec_motions.specs.Enclosures.{IsSeries, IsSpanOf, arguments, coefficients_of, sum_exponent, position_over, position_step_over, velocity_over, velocity_step_over}
use Rattle.spec_motions.proofs.RowSums.{sums_ordered}
use Rattle.spec_bodies.specs.declared.quantity.Quantity.{Quantity}
use Rattle.spec_bodies.specs.declared.quantity.Quantity.TheVariants.{Position, Velocity}
use Rattle.spec_bodies.specs.Views.{value_interval, step_interval}
use Rattle.spec_models.specs.Inclusion.{Includes}
use Rattle.spec_bounds.proofs.Covers.{Covers}
use Rattle.spec_bounds.proofs.Rows.{Covers-t, Covers-u, Covers-q, Covers-r}
use Rattle.spec_bounds.proofs.Sums.{CoversRow, CoversRow-multiples, sum_low-falls, sum_high-grows}
use Rattle.spec_bounds.proofs.Arguments.{Covers-arguments, IsArguments-within}
use Rattle.spec_bounds.proofs.Narrowed.{Includes-narrowed, Includes-scale, scaled, scaled_ordered, Covers-scaled}

-- the two ends of a sum
abbrev sums : (ℕ → Ival62) → ℕ → List Ival62 → Ival62
sums row k cs = ends (sum_low row k cs) (sum_high row k cs)

Covers-sums : (q r : ℕ → Ival62) (k : ℕ) (cs : List Ival62) → CoversRow q r → Covers (sums q k cs) (sums r k cs)
Covers-sums q r k cs h = record { low = sum_low-falls q r h k cs; high = sum_high-grows q r h k cs }

-- ---- over arguments x that lie in y
module _ (y x : Ival62) (is : IsArguments x) (round : Covers y x) where
  positions : CoversRow (t_row y) (t_row x)
  positions = record { ordered = t_ordered x is; covers = Covers-t y x is round }

  position_steps : CoversRow (q_row y) (q_row x)
  position_steps = record { ordered = q_ordered x is; covers = Covers-q y x is round }

  slopes : CoversRow (slope_row y) (slope_row x)
  slopes = CoversRow-multiples (u_row y) (u_row x) (record { ordered = u_ordered x is; covers = Covers-u y x is round })

  slope_steps : CoversRow (slope_difference_row y) (slope_difference_row x)
  slope_steps = CoversRow-multiples (r_row y) (r_row x) (record { ordered = r_ordered x is; covers = Covers-r y x is round })

  module _ (cs : List Ival62) where
    pub Includes-position : Includes (position_over cs y) (position_over cs x)
    unfolding position_over
    Includes-position =
        Includes-narrowed (sums (t_row y) 0 cs) (sums (t_row x) 0 cs) (sum_exponent t_unit) (sums_ordered (t_row x) 0 cs) (Covers-sums (t_row y) (t_row x) 0 cs positions)

    module _ (length : ℕ) (long : 0 < length) where
      pub Includes-position_step : Includes (position_step_over cs y length) (position_step_over cs x length)
      unfolding position_step_over
      Includes-position_step =
          Includes-scale length long (sums (q_row y) 0 cs) (sums (q_row x) 0 cs) (sum_exponent q_unit) (sums_ordered (q_row x) 0 cs) (Covers-sums (q_row y) (q_row x) 0 cs position_steps)

      pub Includes-velocity : Includes (velocity_over cs y length) (velocity_over cs x length)
      unfolding velocity_over
      Includes-velocity =
          let later = drop 1 cs in
          Includes-scale length long (sums (slope_row y) 1 later) (sums (slope_row x) 1 later) (sum_exponent u_unit) (sums_ordered (slope_row x) 1 later) (Covers-sums (slope_row y) (slope_row x) 1 later slopes)

      -- scaled twice
      pub Includes-velocity_step : Includes (velocity_step_over cs y length) (velocity_step_over cs x length)
      unfolding velocity_step_over
      Includes-velocity_step =
          let later = drop 1 cs in
          let outer = sums (slope_difference_row y) 1 later in
          let inner = sums (slope_difference_row x) 1 later in
          let ordered = scaled_ordered length long inner (sums_ordered (slope_difference_row x) 1 later) in
          let covers = Covers-scaled length long outer inner (Covers-sums (slope_difference_row y) (slope_difference_row x) 1 later slope_steps) in
          Includes-scale length long (scaled length outer) (scaled length inner) (sum_exponent r_unit) ordered covers

-- a span of several times
lt-is : (a b : ℤ) → a <ℤ b → lt_z a b ≡ true
lt-is a b h = by (lt_z a b) refl
  where
    by : (c : Bool) → lt_z a b ≡ c → c ≡ true
    by true e = refl
    by false e = absurd (omega (arith, lin))

-- ---- of a series over times from c to d, and from a to b
module _ (s : Series) (a b c d : ℤ) (is : IsSeries s) (span : IsSpanOf s c d) (from : c ≤ℤ a) (ordered : a ≤ℤ b) (to : b ≤ℤ d) where
  long : 0 < s.duration
  long = let p = is.long in omega (arith, p)

  within : IsArguments (arguments s a b)
  within = IsArguments-within s a b c d is span from ordered to

  round : Covers (arguments s c d) (arguments s a b)
  round = Covers-arguments s a b c d is span from ordered to

  pub Includes-value : (quantity : Quantity) → Includes (value_interval quantity s c d) (value_interval quantity s a b)
  Includes-value Position = Includes-position (arguments s c d) (arguments s a b) within round (coefficients_of s)
  Includes-value Velocity = Includes-velocity (arguments s c d) (arguments s a b) within round (coefficients_of s) s.duration long

  step_of_position : Includes (position_step_over (coefficients_of s) (arguments s c d) s.duration) (position_step_over (coefficients_of s) (arguments s a b) s.duration)
  step_of_position = Includes-position_step (arguments s c d) (arguments s a b) within round (coefficients_of s) s.duration long

  step_of_velocity : Includes (velocity_step_over (coefficients_of s) (arguments s c d) s.duration) (velocity_step_over (coefficients_of s) (arguments s a b) s.duration)
  step_of_velocity = Includes-velocity_step (arguments s c d) (arguments s a b) within round (coefficients_of s) s.duration long

-- over one time the step is 0, which that over a longer span may leave out
module _ (s : Series) (a b c d : ℤ) (is : IsSeries s) (span : IsSpanOf s c d) (from : c ≤ℤ a) (several : a <ℤ b) (to : b ≤ℤ d) where
  ordered : a ≤ℤ b
  ordered = omega (arith, lin)

  inner_several : lt_z a b ≡ true
  inner_several = lt-is a b several

  outer_several : lt_z c d ≡ true
  outer_several = lt-is c d (omega (arith, lin))

  pub Includes-step : (quantity : Quantity) → Includes (step_interval quantity s c d) (step_interval quantity s a b)
  Includes-step Position = rw (inner_several, outer_several) (step_of_position s a b c d is span from ordered to)
  Includes-step Velocity = rw (inner_several, outer_several) (step_of_velocity s a b c d is span from ordered to)
