-- Quadratic polynomials with whole coefficients: p t^2 + q t + r.
use Rattle.std.specs.Prelude.{◌≤◌, Bool, ◌&&◌, nat_le, Option, None, Some, int_le, int_lt, if◌then◌else◌, ℤ, pos, neg_ℤ, ◌+ℤ◌, ◌-ℤ◌, ◌*ℤ◌, unsigned_abs}
use Rattle.std.specs.Int.{int_min, int_max}
use Rattle.spec_scalars.specs.declared.limits.TheConstants.{MAX_FACTOR, MAX_SUMMAND, MAX_TIME}
use Rattle.spec_scalars.specs.declared.reach.Reach.{Reach}
use Rattle.spec_scalars.specs.Scalars.{Scalar}

pub record Quadratic : Type 0 where
  pub p : ℤ
  pub q : ℤ
  pub r : ℤ

-- within the limits of those that are searched
pub record IsSmall (k : Quadratic) : Type 0 where
  pub small_p : unsigned_abs k.p ≤ MAX_FACTOR
  pub small_q : unsigned_abs k.q ≤ MAX_FACTOR
  pub small_r : unsigned_abs k.r ≤ MAX_SUMMAND

abbrev pub is_small : Quadratic → Bool
is_small k =
    nat_le (unsigned_abs k.p) MAX_FACTOR && (nat_le (unsigned_abs k.q) MAX_FACTOR && nat_le (unsigned_abs k.r) MAX_SUMMAND)

-- the polynomial, where it is one of those
abbrev pub small_quadratic : ℤ → ℤ → ℤ → Option Quadratic
small_quadratic p q r =
    let k : Quadratic = record { p = p; q = q; r = r } in
    if is_small k then Some k else None

abbrev pub quad_at : Quadratic → ℤ → ℤ
quad_at k t = (k.p *ℤ (t *ℤ t) +ℤ k.q *ℤ t) +ℤ k.r

-- the least and the greatest square of the times from a to b
abbrev pub least_square : ℤ → ℤ → ℤ
least_square a b = if int_le a (pos 0) && int_le (pos 0) b then pos 0 else int_min (a *ℤ a) (b *ℤ b)

abbrev pub greatest_square : ℤ → ℤ → ℤ
greatest_square a b = int_max (a *ℤ a) (b *ℤ b)

-- the change from t to the next time
abbrev pub quad_step : Quadratic → ℤ → ℤ
quad_step k t = k.p *ℤ (pos 2 *ℤ t +ℤ pos 1) +ℤ k.q

abbrev pub quad_low : Quadratic → ℤ → ℤ → ℤ
quad_low k a b =
    (int_min (k.p *ℤ least_square a b) (k.p *ℤ greatest_square a b) +ℤ int_min (k.q *ℤ a) (k.q *ℤ b)) +ℤ k.r

abbrev pub quad_high : Quadratic → ℤ → ℤ → ℤ
quad_high k a b =
    (int_max (k.p *ℤ least_square a b) (k.p *ℤ greatest_square a b) +ℤ int_max (k.q *ℤ a) (k.q *ℤ b)) +ℤ k.r

-- the last step of a span begins at the time before its last
abbrev pub quad_reach : Quadratic → ℤ → ℤ → Reach
quad_reach k a b = record {
  lo = quad_low k a b;
  hi = quad_high k a b;
  step_lo = if int_lt a b then int_min (quad_step k a) (quad_step k (b -ℤ pos 1)) else pos 0;
  step_hi = if int_lt a b then int_max (quad_step k a) (quad_step k (b -ℤ pos 1)) else pos 0;
}

-- at times of at most 2^40 in magnitude
abbrev pub quad_scalar : Quadratic → Scalar
quad_scalar k = record { first = neg_ℤ (pos MAX_TIME); last = pos MAX_TIME; at = quad_at k; reach = quad_reach k }
