-- What the ends of an interval are at an exponent of at least s.
use Rattle.std.specs.Prelude.{◌≡◌, ◌≤◌, ◌*◌, ◌≤ℤ◌, ℤ, unsigned_abs}
use Rattle.spec_intervals.specs.Interval.{Interval, end_limit, exponent_limit}
use Rattle.spec_models.specs.Bounds.{at_exponent}
use Rattle.ival_core.specs.declared.ival.Raised.{Raised}

pub record IsRaised (s : ℤ) (x : Interval) (at : Raised) : Type 0 where
  pub lo : at.lo ≡ (at_exponent s x).lo
  pub hi : at.hi ≡ (at_exponent s x).hi
  pub exponent : at.s ≡ (at_exponent s x).s
  pub ordered : at.lo ≤ℤ at.hi
  pub lo_small : unsigned_abs at.lo ≤ end_limit
  pub hi_small : unsigned_abs at.hi ≤ end_limit
  pub exponent_bound : unsigned_abs at.s ≤ 4 * exponent_limit
