-- What the rules on bounds owe the calls on intervals.
use Rattle.std.proofs.Common.{◌≡◌, ℕ, ◌+◌, ◌≤◌, arith, ℤ, pos, ◌-ℤ◌, ◌∙◌, to_z, of_z, w32, unsigned_abs}
use Rattle.std.proofs.lemmas.Int.{ints, to_z-of_z}
use Rattle.spec_intervals.specs.Interval.{Interval, IsExponent, product, signed_square}
use Rattle.spec_intervals.specs.Enclosure.{IsSpan, IsWithin, offsets, twice_size}
use Rattle.spec_intervals.proofs.Exponents.{IsWithin-more, product-within, signed_square-within, twice_size-within}
use Rattle.spec_expressions.specs.Term.{part_exponent}
use Rattle.spec_models.specs.Bounds.{coarse_difference, coarse_sum}
use Rattle.spec_bounds.proofs.Exponents.{coarse_sum-within, coarse_difference-within, stepped-within}
use Rattle.event_expr.specs.States.{wide_exponent}
use Rattle.event_bounds.specs.declared.times.BoundTimes.{BoundTimes}

pub span_of : (t : BoundTimes) → IsSpan t.span.now.first t.span.now.last
span_of t = record { ordered = t.ordered; first_near = t.first_near; last_near = t.last_near }

pub is_exponent : (n : ℕ) (x : Interval) → n ≤ 65536 → IsWithin n x → IsExponent x.s
is_exponent n x few is = let e = is.exponent in omega (arith, e, few)

-- an exponent that is lowered by 60 is in range
pub lowered : (r s : ℤ) → unsigned_abs s ≤ 48127 → r ≡ s -ℤ pos 60 → to_z w32 (of_z w32 r) ≡ s -ℤ pos 60
lowered r s small is = to_z-of_z w32 r (omega (arith, ints)) ∙ is

pub lowered_exponent : (r s : ℤ) → unsigned_abs s ≤ 48127 → r ≡ s -ℤ pos 60 → IsExponent (to_z w32 (of_z w32 r))
lowered_exponent r s small is = let e = lowered r s small is in rw e (omega (arith, ints))

-- ---- what a step reaches
module _ (t : BoundTimes) (range step d m : Interval) (p : IsWithin wide_exponent range) (q : IsWithin wide_exponent step)
    (are : d ≡ offsets t.span.now.first t.span.now.last) (is : m ≡ product step d) where
  pub stepped : IsWithin 48126 m
  stepped = rw (is, are) (stepped-within t.span.now.first t.span.now.last (span_of t) wide_exponent step q)

  pub reached_by : (r : Interval) → r ≡ coarse_sum range m → IsWithin 48127 r
  reached_by r e = rw e (coarse_sum-within 48126 range m (IsWithin-more wide_exponent 48126 range (omega arith) p) stepped)

-- ---- what is made of two parts
module _ (x y r : Interval) (p : IsWithin part_exponent x) (q : IsWithin part_exponent y) where
  pub sum_wide : r ≡ coarse_sum x y → IsWithin wide_exponent r
  sum_wide e = rw e (IsWithin-more (part_exponent + 1) wide_exponent (coarse_sum x y) (omega arith) (coarse_sum-within part_exponent x y p q))

  pub difference_wide : r ≡ coarse_difference x y → IsWithin wide_exponent r
  difference_wide e = rw e (IsWithin-more (part_exponent + 1) wide_exponent (coarse_difference x y) (omega arith) (coarse_difference-within part_exponent x y p q))

  pub product_part : r ≡ product x y → IsWithin 48062 r
  product_part e = rw e (product-within x y part_exponent part_exponent p q)

  pub product_wide : r ≡ product x y → IsWithin wide_exponent r
  product_wide e = IsWithin-more 48062 wide_exponent r (omega arith) (product_part e)

pub products_wide : (x y r : Interval) → IsWithin 48062 x → IsWithin 48062 y → r ≡ coarse_sum x y → IsWithin wide_exponent r
products_wide x y r p q e = rw e (IsWithin-more (48062 + 1) wide_exponent (coarse_sum x y) (omega arith) (coarse_sum-within 48062 x y p q))

-- ---- and of one
module _ (x r : Interval) (p : IsWithin part_exponent x) where
  pub square_wide : r ≡ signed_square x → IsWithin wide_exponent r
  square_wide e = rw e (IsWithin-more (part_exponent + part_exponent + 62) wide_exponent (signed_square x) (omega arith) (signed_square-within x part_exponent p))

  pub size_part : r ≡ twice_size x → IsWithin (part_exponent + 1) r
  size_part e = rw e (twice_size-within x part_exponent p)

pub square_step_wide : (x y r : Interval) → IsWithin (part_exponent + 1) x → IsWithin part_exponent y → r ≡ product x y → IsWithin wide_exponent r
square_step_wide x y r p q e =
    rw e (IsWithin-more (part_exponent + 1 + part_exponent + 62) wide_exponent (product x y) (omega arith) (product-within x y (part_exponent + 1) part_exponent p q))
