-- Sums keep inclusion: the inner sum is taken in a unit no coarser than that of the outer one.
use Rattle.std.proofs.Common.{◌≡◌, ℕ, ◌+◌, ◌*◌, ◌^◌, ap, ◌≤◌, arith, refl, sym, [], ◌∷◌, ℤ, pos, neg_ℤ, ◌+ℤ◌, ◌*ℤ◌, ◌≤ℤ◌, Bool, true, false, ◌∙◌, inl, inr}
use Rattle.std.specs.Prelude.{if◌then◌else◌}
use Rattle.std.specs.Int.{int_gap, int_max}
use Rattle.std.proofs.lemmas.Bool.{false≢true}
use Rattle.std.proofs.lemmas.Nat.{pow_pos}
use lib.Signed.{le_z}
use Rattle.spec_numbers.proofs.Ring.{v, ◌⊕◌, ◌⊗◌, minus, ring}
use Rattle.spec_numbers.proofs.Order.{lin}
use Rattle.spec_numbers.proofs.Floor.{ordered_quotients}
use Rattle.spec_intervals.specs.Interval.{Interval, interval, is_zero, lift, surplus, aligned_lower, aligned_upper, sum_up, sum, negated, difference, narrow}
use Rattle.spec_intervals.proofs.Sums.{gap_is, meets}
use Rattle.spec_intervals.proofs.Rules.{max_bounds}
use Rattle.spec_intervals.proofs.Narrow.{zero_ends}
use Rattle.spec_models.specs.Inclusion.{Spans, HoldsZero, Includes}
use Rattle.spec_models.specs.Bounds.{at_exponent, raised_sum, coarse_sum, coarse_difference}
use Rattle.spec_models.proofs.Gaps.{brought}
use Rattle.spec_models.proofs.Spans.{scaled_le, Spans-outer, Spans-raised, Spans-lowered, Spans-wider}
use Rattle.spec_models.proofs.NarrowedInclusions.{zero_alone, holds_zero, zero_down, zero_up, Includes-raised, Includes-outer, Includes-narrow}

-- ---- two intervals at one exponent
-- their ends added, at the exponent s
abbrev added : ℤ → Interval → Interval → Interval
added s x y = interval (x.lo +ℤ y.lo) (x.hi +ℤ y.hi) s

-- the ends at an exponent of at least s, added
abbrev ends_at : ℤ → Interval → Interval → Interval
ends_at s x y = added s (at_exponent s x) (at_exponent s y)

-- the sum at the exponent s: `raised_sum` is that at the greater of both exponents
abbrev sum_at : ℤ → Interval → Interval → Interval
sum_at s x y = narrow (ends_at s x y).lo (ends_at s x y).hi s

distributed : (a b : ℤ) (g : ℕ) → (a +ℤ b) *ℤ pos (2 ^ g) ≡ a *ℤ pos (2 ^ g) +ℤ b *ℤ pos (2 ^ g)
distributed a b g = ring (a ∷ b ∷ pos (2 ^ g) ∷ []) ((v 0 ⊕ v 1) ⊗ v 2) (v 0 ⊗ v 2 ⊕ v 1 ⊗ v 2) tt

Spans-added : (s t : ℤ) (p q x y : Interval) → p.s ≡ s → q.s ≡ s → x.s ≡ t → y.s ≡ t → Spans p x → Spans q y
    → Spans (added s p q) (added t x y)
Spans-added s t p q x y a b c d m n =
    let e = m.exponent in
    let f = n.exponent in
    let same : n.gap ≡ m.gap = omega (arith, lin) in
    let low = rw same at n.low in
    let high = rw same at n.high in
    let first_low = m.low in
    let first_high = m.high in
    let g = distributed p.lo q.lo m.gap in
    let h = distributed p.hi q.hi m.gap in
    record { gap = m.gap; exponent = omega (arith, lin); low = omega (arith, lin); high = omega (arith, lin) }

Includes-wider : (lo hi s : ℤ) (y x : Interval) → s ≡ y.s → lo ≤ℤ y.lo → y.hi ≤ℤ hi → Includes y x
    → Includes (interval lo hi s) x
Includes-wider lo hi s y x e p q (inl m) = rw e (inl (Spans-wider lo hi y x p q m))
Includes-wider lo hi s y x e p q (inr h) =
    let a = h.low in
    let b = h.high in
    inr (record { zero = h.zero; low = omega (arith, lin); high = omega (arith, lin) })

-- ---- a sum of intervals that are not 0 alone
-- the lower exponent x is raised by a surplus that does not carry it past y, and s is past both
shallow : (x y p q s : ℤ) (surplus lift g h gap : ℕ) → y ≡ (x +ℤ pos surplus) +ℤ pos lift
    → p ≡ x +ℤ pos g → q ≡ y +ℤ pos h → q ≤ℤ s → s ≡ p +ℤ pos gap → surplus ≤ gap + g
shallow x y p q s surplus lift g h gap a b c d e = omega (arith, lin)

pub sums_ordered : (a b c d : ℤ) → a ≤ℤ b → c ≤ℤ d → (a +ℤ c) ≤ℤ (b +ℤ d)
sums_ordered a b c d h g = omega (arith, lin)

module _ (s : ℤ) (p q x y : Interval) (h : x.s ≤ℤ y.s) (a : p.s ≤ℤ s) (b : q.s ≤ℤ s)
    (m : Spans p x) (n : Spans q y) where
  -- the inner ends, added
  abbrev inner : Interval
  inner = added (aligned_lower x y).s (aligned_lower x y) (aligned_upper x y)

  small_surplus : surplus x y ≤ int_gap p.s s + m.gap
  small_surplus =
      shallow x.s y.s p.s q.s s (surplus x y) (lift x y) m.gap n.gap (int_gap p.s s)
      (meets x.s y.s h) m.exponent n.exponent b (gap_is p.s s a)

  lower_spanned : Spans (at_exponent s p) (aligned_lower x y)
  lower_spanned = Spans-raised (int_gap p.s s) (surplus x y) p x m small_surplus

  upper_spanned : Spans (at_exponent s q) (aligned_upper x y)
  upper_spanned = Spans-outer (int_gap q.s s) q (aligned_upper x y) (Spans-lowered (lift x y) q y n)

  sum_up_spanned : Spans (ends_at s p q) inner
  sum_up_spanned =
      let same = brought y.s (aligned_lower x y).s (lift x y) (meets x.s y.s h) in
      Spans-added s (aligned_lower x y).s (at_exponent s p) (at_exponent s q) (aligned_lower x y) (aligned_upper x y)
      (sym (gap_is p.s s a)) (sym (gap_is q.s s b)) refl same lower_spanned upper_spanned

  sum_up_included : x.lo ≤ℤ x.hi → y.lo ≤ℤ y.hi → Includes (sum_at s p q) (sum_up x y)
  unfolding sum_up
  sum_up_included o u =
      let lower = ordered_quotients x.lo x.hi (2 ^ surplus x y) (pow_pos (surplus x y)) o in
      let upper = scaled_le y.lo y.hi (lift x y) u in
      Includes-narrow (ends_at s p q) inner (sums_ordered _ _ _ _ lower upper) (inl sum_up_spanned)

-- ---- sums
not_zero : (y x : Interval) → is_zero x ≡ false → Includes y x → Spans y x
not_zero y x e (inl s) = s
not_zero y x e (inr h) = absurd (false≢true (sym e ∙ h.zero))

exchanged_sum : (s : ℤ) (p q : Interval) → sum_at s p q ≡ sum_at s q p
exchanged_sum s p q = by (at_exponent s p) (at_exponent s q)
  where
    by : (p q : Interval) → narrow (p.lo +ℤ q.lo) (p.hi +ℤ q.hi) s ≡ narrow (q.lo +ℤ p.lo) (q.hi +ℤ p.hi) s
    by p q =
        let a : p.lo +ℤ q.lo ≡ q.lo +ℤ p.lo = omega (arith, lin) in
        let b : p.hi +ℤ q.hi ≡ q.hi +ℤ p.hi = omega (arith, lin) in
        cc

-- 0 may be added on either side
first_alone : (s : ℤ) (p q x y : Interval) → p.s ≤ℤ s → q.s ≤ℤ s → y.lo ≤ℤ y.hi → HoldsZero p x → Includes q y → Includes (sum_at s p q) y
first_alone s p q x y a b u h j =
    let low = zero_down p.lo (2 ^ int_gap p.s s) (pow_pos (int_gap p.s s)) h.low in
    let high = zero_up p.hi (2 ^ int_gap p.s s) (pow_pos (int_gap p.s s)) h.high in
    let raised_in = Includes-raised (int_gap q.s s) q y j in
    let wider = Includes-wider _ _ s (at_exponent s q) y (gap_is q.s s b) (omega (arith, lin)) (omega (arith, lin)) raised_in in
    Includes-outer (ends_at s p q) y u wider

second_alone : (s : ℤ) (p q x y : Interval) → p.s ≤ℤ s → q.s ≤ℤ s → x.lo ≤ℤ x.hi → HoldsZero q y → Includes p x → Includes (sum_at s p q) x
second_alone s p q x y a b o h i = rw (exchanged_sum s p q) (first_alone s q p y x b a o h i)

sum_included : (s : ℤ) (p q x y : Interval) → p.s ≤ℤ s → q.s ≤ℤ s → x.lo ≤ℤ x.hi → y.lo ≤ℤ y.hi → Includes p x → Includes q y
    → Includes (sum_at s p q) (sum x y)
unfolding sum
sum_included s p q x y m n o u i j = by (is_zero x) (is_zero y) (le_z x.s y.s) refl refl refl
  where
    by : (a b c : Bool) → is_zero x ≡ a → is_zero y ≡ b → le_z x.s y.s ≡ c
        → Includes (sum_at s p q) (if a then y else (if b then x else (if c then sum_up x y else sum_up y x)))
    by true b c e f g = first_alone s p q x y m n u (holds_zero p x e i) j
    by false true c e f g = second_alone s p q x y m n o (holds_zero q y f j) i
    by false false true e f g = sum_up_included s p q x y (omega (arith, lin)) m n (not_zero p x e i) (not_zero q y f j) o u
    by false false false e f g =
        rw (exchanged_sum s p q) (sum_up_included s q p y x (omega (arith, lin)) n m (not_zero q y f j) (not_zero p x e i) u o)

Includes-raised_sum : (p q x y : Interval) → x.lo ≤ℤ x.hi → y.lo ≤ℤ y.hi → Includes p x → Includes q y
    → Includes (raised_sum p q) (sum x y)
unfolding raised_sum
Includes-raised_sum p q x y o u i j =
    let most = max_bounds p.s q.s in
    sum_included (int_max p.s q.s) p q x y most.0 most.1 o u i j

-- what 0 alone includes is 0 alone
scaled_none : (z : ℤ) (g : ℕ) → z ≡ pos 0 → z *ℤ pos (2 ^ g) ≡ pos 0
scaled_none z g e = let none : 0 * 2 ^ g ≡ 0 = omega arith in rw e (ap pos none)

zero_within : (p x : Interval) → is_zero p ≡ true → x.lo ≤ℤ x.hi → Includes p x → is_zero x ≡ true
zero_within p x e o (inl s) =
    let ends = zero_ends p.lo p.hi e in
    let first = scaled_none p.lo s.gap ends.0 in
    let last = scaled_none p.hi s.gap ends.1 in
    let low = s.low in
    let high = s.high in
    zero_alone x.lo x.hi (omega (arith, lin)) (omega (arith, lin))
zero_within p x e o (inr h) = h.zero

sum_of_second : (x y : Interval) → is_zero x ≡ true → sum x y ≡ y
unfolding sum
sum_of_second x y e = rw e refl

sum_of_first : (x y : Interval) → is_zero x ≡ false → is_zero y ≡ true → sum x y ≡ x
unfolding sum
sum_of_first x y e f = rw (e, f) refl

-- the second of the outer intervals is 0 alone, so that the first includes the sum
first_included : (p x y : Interval) → is_zero y ≡ true → Includes p x → Includes p (sum x y)
first_included p x y f i = by (is_zero x) refl
  where
    by : (a : Bool) → is_zero x ≡ a → Includes p (sum x y)
    by true e = let h = holds_zero p x e i in rw (sum_of_second x y e) (inr (record { zero = f; low = h.low; high = h.high }))
    by false e = rw (sum_of_first x y e f) i

pub Includes-sum : (p q x y : Interval) → x.lo ≤ℤ x.hi → y.lo ≤ℤ y.hi → Includes p x → Includes q y
    → Includes (coarse_sum p q) (sum x y)
unfolding coarse_sum
Includes-sum p q x y o u i j = by (is_zero p) (is_zero q) refl refl
  where
    by : (a b : Bool) → is_zero p ≡ a → is_zero q ≡ b → Includes (if a then q else (if b then p else raised_sum p q)) (sum x y)
    by true b e f = rw (sum_of_second x y (zero_within p x e o i)) j
    by false true e f = first_included p x y (zero_within q y f u j) i
    by false false e f = Includes-raised_sum p q x y o u i j

-- ---- differences
turned : (z : ℤ) (g : ℕ) → neg_ℤ z *ℤ pos (2 ^ g) ≡ neg_ℤ (z *ℤ pos (2 ^ g))
turned z g = ring (z ∷ pos (2 ^ g) ∷ []) (minus (v 0) ⊗ v 1) (minus (v 0 ⊗ v 1)) tt

pub Includes-negated : (y x : Interval) → Includes y x → Includes (negated y) (negated x)
Includes-negated y x (inl s) =
    let a = turned y.hi s.gap in
    let b = turned y.lo s.gap in
    let low = s.low in
    let high = s.high in
    inl (record { gap = s.gap; exponent = s.exponent; low = omega (arith, lin); high = omega (arith, lin) })
Includes-negated y x (inr h) =
    let e = zero_ends x.lo x.hi h.zero in
    let low = h.low in
    let high = h.high in
    let zero = zero_alone (neg_ℤ x.hi) (neg_ℤ x.lo) (omega (arith, lin)) (omega (arith, lin)) in
    inr (record { zero = zero; low = omega (arith, lin); high = omega (arith, lin) })

pub Includes-difference : (p q x y : Interval) → x.lo ≤ℤ x.hi → y.lo ≤ℤ y.hi → Includes p x → Includes q y
    → Includes (coarse_difference p q) (difference x y)
unfolding difference
Includes-difference p q x y o u i j =
    Includes-sum p (negated q) x (negated y) o (omega (arith, lin)) i (Includes-negated q y j)
