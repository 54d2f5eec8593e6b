-- What a plain range and a centred one share lies in what includes the plain one, in a unit that may be 2^60 below that of
-- what includes the centred one: no meet is taken in a coarser unit than that or the plain range's own.
use Rattle.std.proofs.Common.{◌≡◌, ℕ, ◌+◌, ◌-◌, ◌^◌, ◌<◌, ◌≤◌, arith, refl, subst, ℤ, pos, ◌+ℤ◌, ◌-ℤ◌, ◌≤ℤ◌, Bool, true, false, ◌⊎◌, inl, inr}
use Rattle.std.specs.Prelude.{if◌then◌else◌}
use Rattle.std.specs.Int.{int_gap, int_min, int_max}
use Rattle.std.proofs.lemmas.Int.{ints, clamps}
use Rattle.std.proofs.lemmas.Nat.{pow_pos}
use lib.Signed.{le_z}
use Rattle.spec_numbers.specs.Numbers.{floor_div, ceil_div}
use Rattle.spec_numbers.proofs.Order.{lin}
use Rattle.spec_intervals.specs.Interval.{Interval, interval, zero_interval, is_zero, lift_limit, lift, surplus, aligned_lower, aligned_upper, narrow, meet_up, meet}
use Rattle.spec_intervals.specs.Fraction.{Overlaps}
use Rattle.spec_intervals.proofs.Sums.{gap_is, meets, zero_num}
use Rattle.spec_intervals.proofs.Rules.{min_bounds, max_bounds, ends-in_order, meet-in_order}
use Rattle.spec_intervals.proofs.Narrow.{zero_ends}
use Rattle.spec_models.specs.Inclusion.{Spans, HoldsZero, Includes}
use Rattle.spec_models.specs.Bounds.{at_exponent, coarsened}
use Rattle.spec_models.proofs.Gaps.{brought, gap-reaches}
use Rattle.spec_models.proofs.Spans.{floor_div-greatest, ceil_div-least, Spans-outer, Spans-raised, Spans-lowered, Spans-within}
use Rattle.spec_models.proofs.NarrowedInclusions.{zero_down, zero_up, spans_zero, zero_moved, narrow-zero, Includes-narrow}
use Rattle.spec_models.proofs.Coarse.{Includes-coarsened}

overlaps_back : (x y : Interval) → Overlaps x y → Overlaps y x
overlaps_back x y o = record { common = o.common; is_fraction = o.is_fraction; in_first = o.in_second; in_second = o.in_first }

-- ---- the meet lies in either of the two at their one exponent
abbrev met_lo : Interval → Interval → ℤ
met_lo x y = int_max (aligned_lower x y).lo (aligned_upper x y).lo

abbrev met_hi : Interval → Interval → ℤ
met_hi x y = int_min (aligned_lower x y).hi (aligned_upper x y).hi

abbrev met : Interval → Interval → Interval
met x y = interval (met_lo x y) (met_hi x y) (aligned_lower x y).s

within_lower : (y u w : Interval) → Spans y (aligned_lower u w) → Spans y (met u w)
within_lower y u w s =
    let low = max_bounds (aligned_lower u w).lo (aligned_upper u w).lo in
    let high = min_bounds (aligned_lower u w).hi (aligned_upper u w).hi in
    Spans-within (met_lo u w) (met_hi u w) y (aligned_lower u w) low.0 high.0 s

within_upper : (y u w : Interval) → u.s ≤ℤ w.s → Spans y (aligned_upper u w) → Spans y (met u w)
within_upper y u w h s =
    let low = max_bounds (aligned_lower u w).lo (aligned_upper u w).lo in
    let high = min_bounds (aligned_lower u w).hi (aligned_upper u w).hi in
    let same = brought w.s (aligned_lower u w).s (lift u w) (meets u.s w.s h) in
    subst (λ e. Spans y (interval (met_lo u w) (met_hi u w) e)) same
    (Spans-within (met_lo u w) (met_hi u w) y (aligned_upper u w) low.1 high.1 s)

-- ---- both units are known
-- from a up to e, but for 60, is not past what is above a by g + k
deep : (a b c e : ℤ) (d g k : ℕ) → e ≡ a +ℤ pos d → e ≤ℤ c → b ≡ a +ℤ pos g → (c -ℤ pos 60) ≤ℤ (b +ℤ pos k)
    → d - 60 ≤ k + g
deep a b c e d g k p q r s = omega (arith, lin)

module _ (y z u w : Interval) (o : Overlaps u w) (m : Spans y u) where
  -- the exponent that the outer one has at least
  abbrev least : ℤ
  least = z.s -ℤ pos lift_limit

  -- the plain one is the finer one, and is raised
  first_finer : u.s ≤ℤ w.s → w.s ≤ℤ z.s → Includes (coarsened least y) (meet_up u w)
  unfolding coarsened meet_up
  first_finer h c =
      let gap = gap_is u.s w.s h in
      let far = gap-reaches y.s least in
      let small = deep u.s y.s z.s w.s (int_gap u.s w.s) m.gap (int_gap y.s least) gap c m.exponent far in
      let spanned = Spans-raised (int_gap y.s least) (surplus u w) y u m small in
      Includes-narrow (at_exponent least y) (met u w) (meet-in_order u w h o) (inl (within_lower _ u w spanned))

  -- the plain one is the coarser one, and is lowered
  first_coarser : w.s ≤ℤ u.s → Includes (coarsened least y) (meet_up w u)
  unfolding coarsened meet_up
  first_coarser h =
      let spanned = Spans-outer (int_gap y.s least) y (aligned_upper w u) (Spans-lowered (lift w u) y u m) in
      let ordered = meet-in_order w u h (overlaps_back u w o) in
      Includes-narrow (at_exponent least y) (met w u) ordered (inl (within_upper _ w u h spanned))

  both_spanned : Spans z w → Includes (coarsened least y) (meet u w)
  unfolding meet
  both_spanned n = by (le_z u.s w.s) refl
    where
      by : (c : Bool) → le_z u.s w.s ≡ c → Includes (coarsened least y) (if c then meet_up u w else meet_up w u)
      by true e = let f = n.exponent in first_finer (omega (arith, lin)) (omega (arith, lin))
      by false e = first_coarser (omega (arith, lin))

-- ---- one of them is 0 alone
floor_zero : (d : ℕ) → 0 < d → floor_div (pos 0) d ≡ pos 0
floor_zero d p =
    let a = zero_down (pos 0) d p (omega (arith, lin)) in
    let b = floor_div-greatest (pos 0) (pos 0) d p (omega (arith, ints)) in
    omega (arith, lin)

ceil_zero : (d : ℕ) → 0 < d → ceil_div (pos 0) d ≡ pos 0
ceil_zero d p =
    let a = zero_up (pos 0) d p (omega (arith, lin)) in
    let b = ceil_div-least (pos 0) (pos 0) d p (omega (arith, ints)) in
    omega (arith, lin)

-- between 0 and 0 is 0 alone
pinched : (a b c d s : ℤ) → (a ≡ pos 0 × b ≡ pos 0) ⊎ (c ≡ pos 0 × d ≡ pos 0) → int_max a c ≤ℤ int_min b d
    → narrow (int_max a c) (int_min b d) s ≡ zero_interval
pinched a b c d s (inl (e, f)) h = narrow-zero _ _ s (omega (arith, ints, clamps)) (omega (arith, ints, clamps))
pinched a b c d s (inr (e, f)) h = narrow-zero _ _ s (omega (arith, ints, clamps)) (omega (arith, ints, clamps))

-- both ends are 0
abbrev Vanishes : Interval → Type 0
Vanishes x = x.lo ≡ pos 0 × x.hi ≡ pos 0

meet_up-zero : (x y : Interval) → x.s ≤ℤ y.s → Overlaps x y → (is_zero x ≡ true) ⊎ (is_zero y ≡ true) → meet_up x y ≡ zero_interval
unfolding meet_up
meet_up-zero x y h o z =
    pinched (aligned_lower x y).lo (aligned_lower x y).hi (aligned_upper x y).lo (aligned_upper x y).hi (aligned_lower x y).s
    (either z) (meet-in_order x y h o)
  where
    either : (is_zero x ≡ true) ⊎ (is_zero y ≡ true) → Vanishes (aligned_lower x y) ⊎ Vanishes (aligned_upper x y)
    either (inl z) =
        let e = zero_ends x.lo x.hi z in
        let p = pow_pos (surplus x y) in
        inl (rw e.0 (floor_zero (2 ^ surplus x y) p), rw e.1 (ceil_zero (2 ^ surplus x y) p))
    either (inr z) =
        let e = zero_ends y.lo y.hi z in
        inr (rw e.0 (omega (arith, ints)), rw e.1 (omega (arith, ints)))

meet-zero : (x y : Interval) → Overlaps x y → (is_zero x ≡ true) ⊎ (is_zero y ≡ true) → meet x y ≡ zero_interval
unfolding meet
meet-zero x y o z = by (le_z x.s y.s) refl
  where
    turn : (is_zero x ≡ true) ⊎ (is_zero y ≡ true) → (is_zero y ≡ true) ⊎ (is_zero x ≡ true)
    turn (inl e) = inr e
    turn (inr e) = inl e

    by : (c : Bool) → le_z x.s y.s ≡ c → (if c then meet_up x y else meet_up y x) ≡ zero_interval
    by true e = meet_up-zero x y (omega (arith, lin)) o z
    by false e = meet_up-zero y x (omega (arith, lin)) (overlaps_back x y o) (turn z)

-- what overlaps 0 alone holds 0
zero_between : (x y : Interval) → Overlaps x y → is_zero y ≡ true → (x.lo ≤ℤ pos 0) × (pos 0 ≤ℤ x.hi)
zero_between x y o z =
    let e = zero_num y o.common z o.in_second in
    let low = ends-in_order x.lo (pos 0) x.s o.common o.is_fraction o.in_first.low (rw e (omega (arith, ints))) in
    let high = ends-in_order (pos 0) x.hi x.s o.common o.is_fraction (rw e (omega (arith, ints))) o.in_first.high in
    (low, high)

meet_at_zero : (s : ℤ) (y u w : Interval) → Overlaps u w → (is_zero u ≡ true) ⊎ (is_zero w ≡ true) → HoldsZero y zero_interval
    → Includes (coarsened s y) (meet u w)
meet_at_zero s y u w o z h = rw (meet-zero u w o z) (Includes-coarsened s y zero_interval (omega (arith, lin)) (inr h))

pub Includes-meet : (plain centred y z : Interval) → Overlaps plain centred → Includes y plain → Includes z centred
    → Includes (coarsened (z.s -ℤ pos lift_limit) y) (meet plain centred)
Includes-meet plain centred y z o (inl m) (inl n) = both_spanned y z plain centred o m n
Includes-meet plain centred y z o (inr h) i = meet_at_zero _ y plain centred o (inl h.zero) (zero_moved y plain h)
Includes-meet plain centred y z o (inl m) (inr h) =
    let b = zero_between plain centred o h.zero in
    let spanned = Spans-within (pos 0) (pos 0) y plain b.0 b.1 m in
    meet_at_zero _ y plain centred o (inr h.zero) (zero_moved y _ (spans_zero y (interval (pos 0) (pos 0) plain.s) refl spanned))
