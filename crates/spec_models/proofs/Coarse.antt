-- What a coarser unit keeps, and what the sign of an end tells of what is included.
use Rattle.std.proofs.Common.{arith, ℤ, pos, neg_ℤ, ◌≤ℤ◌, ◌<ℤ◌, inl, inr}
use Rattle.std.proofs.lemmas.Int.{ints}
use Rattle.std.proofs.lemmas.Nat.{pow_pos}
use Rattle.std.specs.Int.{int_gap}
use Rattle.spec_numbers.proofs.Order.{lin}
use Rattle.spec_intervals.specs.Interval.{Interval}
use Rattle.spec_intervals.proofs.Narrow.{zero_ends}
use Rattle.spec_models.specs.Inclusion.{Includes}
use Rattle.spec_models.specs.Bounds.{at_exponent, coarsened}
use Rattle.spec_models.proofs.Spans.{scaled_le, Spans-refl}
use Rattle.spec_models.proofs.NarrowedInclusions.{Includes-raised, Includes-outer}

pub Includes-refl : (x : Interval) → Includes x x
Includes-refl x = inl (Spans-refl x)

pub Includes-coarsened : (s : ℤ) (y x : Interval) → x.lo ≤ℤ x.hi → Includes y x → Includes (coarsened s y) x
unfolding coarsened
Includes-coarsened s y x o h = Includes-outer (at_exponent s y) x o (Includes-raised (int_gap y.s s) y x h)

-- ---- signs
pub Includes-not_negative : (y x : Interval) → Includes y x → pos 0 ≤ℤ y.lo → pos 0 ≤ℤ x.lo
Includes-not_negative y x (inl s) h =
    let a = scaled_le (pos 0) y.lo s.gap h in
    let b = s.low in
    omega (arith, ints)
Includes-not_negative y x (inr z) h = let e = zero_ends x.lo x.hi z.zero in omega (arith, lin)

pub Includes-not_positive : (y x : Interval) → Includes y x → y.hi ≤ℤ pos 0 → x.hi ≤ℤ pos 0
Includes-not_positive y x (inl s) h =
    let a = scaled_le y.hi (pos 0) s.gap h in
    let b = s.high in
    omega (arith, ints)
Includes-not_positive y x (inr z) h = let e = zero_ends x.lo x.hi z.zero in omega (arith, lin)

pub Includes-negative : (y x : Interval) → Includes y x → y.hi <ℤ pos 0 → x.hi <ℤ pos 0
Includes-negative y x (inl s) h =
    let a = scaled_le y.hi (neg_ℤ (pos 1)) s.gap (omega (arith, lin)) in
    let b = s.high in
    let p = pow_pos s.gap in
    omega (arith, ints)
Includes-negative y x (inr z) h = let a = z.high in absurd (omega (arith, lin))
