-- How large the least and the greatest product of the ends of two intervals are at most.
use Rattle.std.proofs.Common.{ℕ, ◌*◌, ◌≤◌, ◌*ℤ◌, unsigned_abs}
use Rattle.spec_intervals.specs.Interval.{least4, greatest4}
use Rattle.spec_numbers.proofs.Sizes.{product_size, least_size as least_of_four, greatest_size as greatest_of_four}
use Rattle.spec_chebyshev.specs.declared.ends.Ival62.{Ival62}
use Rattle.spec_chebyshev.specs.Rows.{EndsWithin}
use Rattle.spec_chebyshev.proofs.Arguments.{within_size}

module _ (c e : Ival62) (m n : ℕ) (hc : EndsWithin m c) (he : EndsWithin n e) where
  ll : unsigned_abs (c.lo *ℤ e.lo) ≤ m * n
  ll = product_size c.lo e.lo m n (within_size c.lo m hc.lo) (within_size e.lo n he.lo)

  lh : unsigned_abs (c.lo *ℤ e.hi) ≤ m * n
  lh = product_size c.lo e.hi m n (within_size c.lo m hc.lo) (within_size e.hi n he.hi)

  hl : unsigned_abs (c.hi *ℤ e.lo) ≤ m * n
  hl = product_size c.hi e.lo m n (within_size c.hi m hc.hi) (within_size e.lo n he.lo)

  hh : unsigned_abs (c.hi *ℤ e.hi) ≤ m * n
  hh = product_size c.hi e.hi m n (within_size c.hi m hc.hi) (within_size e.hi n he.hi)

  pub least_size : unsigned_abs (least4 c.lo c.hi e.lo e.hi) ≤ m * n
  least_size = least_of_four (c.lo *ℤ e.lo) (c.lo *ℤ e.hi) (c.hi *ℤ e.lo) (c.hi *ℤ e.hi) (m * n) ll lh hl hh

  pub greatest_size : unsigned_abs (greatest4 c.lo c.hi e.lo e.hi) ≤ m * n
  greatest_size = greatest_of_four (c.lo *ℤ e.lo) (c.lo *ℤ e.hi) (c.hi *ℤ e.lo) (c.hi *ℤ e.hi) (m * n) ll lh hl hh
