-- Differences, joins, meets and scaled intervals hold the exact results.
use Rattle.std.proofs.Common.{◌≡◌, ℕ, ◌*◌, ◌^◌, ◌<◌, arith, refl, [], ◌∷◌, ℤ, pos, ◌+ℤ◌, ◌-ℤ◌, ◌*ℤ◌, neg_ℤ, ◌≤ℤ◌, Bool, true, false, ◌⊎◌, inl, inr, sym, subst}
use Rattle.std.proofs.lemmas.Int.{ints, clamps}
use Rattle.std.proofs.lemmas.Nat.{pow_pos}
use Rattle.std.specs.Int.{int_min, int_max}
use borrow.Author.Differences.{up, down}
use lib.Signed.{le_z}
use Rattle.spec_numbers.proofs.Ring.{v, k as lit, ◌⊕◌, ◌⊖◌, ◌⊗◌, minus, ring}
use Rattle.spec_numbers.proofs.Naturals.{positive_product}
use Rattle.spec_numbers.proofs.Order.{lin, le-mul, le-mul_cancel, min_is, max_is}
use Rattle.spec_numbers.proofs.Floor.{floor_div-le, ceil_div-ge}
use Rattle.spec_intervals.specs.Fraction.{Fraction, IsFraction, Holds, AtMost, AtLeast, fraction_add, fraction_sub, fraction_scale, Overlaps}
use Rattle.spec_intervals.proofs.Compare.{AtMost-less, AtLeast-more}
use Rattle.spec_intervals.proofs.Narrow.{low-floor, high-ceil, Holds-narrow}
use Rattle.spec_intervals.specs.Interval.{Interval, surplus, lift, aligned_lower, aligned_upper, negated, difference, join_up, join, meet_up, meet, scale}
use Rattle.spec_numbers.specs.Numbers.{floor_div, ceil_div}
use Rattle.std.specs.Prelude.{if◌then◌else◌}
use Rattle.spec_intervals.proofs.Sums.{Holds-sum, lift_low, lift_high, meets}

negate : (z : ℤ) (n : ℕ) → neg_ℤ z *ℤ pos n ≡ neg_ℤ (z *ℤ pos n)
negate z n = ring (z ∷ pos n ∷ []) (minus (v 0) ⊗ v 1) (minus (v 0 ⊗ v 1)) tt

abbrev pub fraction_neg : Fraction → Fraction
fraction_neg r = record { numerator = neg_ℤ r.numerator; denominator = r.denominator }

pub AtMost-neg : (z s : ℤ) (r : Fraction) → AtLeast z s r → AtMost (neg_ℤ z) s (fraction_neg r)
AtMost-neg z s r h = let a = negate z (2 ^ up s * r.denominator) in let b = negate r.numerator (2 ^ down s) in omega (arith, lin)

pub AtLeast-neg : (z s : ℤ) (r : Fraction) → AtMost z s r → AtLeast (neg_ℤ z) s (fraction_neg r)
AtLeast-neg z s r h = let a = negate z (2 ^ up s * r.denominator) in let b = negate r.numerator (2 ^ down s) in omega (arith, lin)

pub Holds-negated : (t : Interval) (r : Fraction) → Holds t r → Holds (negated t) (fraction_neg r)
Holds-negated t r h = record { low = AtMost-neg t.hi t.s r h.high; high = AtLeast-neg t.lo t.s r h.low }

sub-is : (r t : Fraction) → fraction_add r (fraction_neg t) ≡ fraction_sub r t
sub-is r t =
    let e : r.numerator *ℤ pos t.denominator +ℤ neg_ℤ t.numerator *ℤ pos r.denominator ≡ r.numerator *ℤ pos t.denominator -ℤ t.numerator *ℤ pos r.denominator = ring (r.numerator ∷ t.numerator ∷ pos r.denominator ∷ pos t.denominator ∷ []) (v 0 ⊗ v 3 ⊕ minus (v 1) ⊗ v 2) (v 0 ⊗ v 3 ⊖ v 1 ⊗ v 2) tt in
    cc

pub Holds-difference : (x y : Interval) (r t : Fraction) → Holds x r → Holds y t → Holds (difference x y) (fraction_sub r t)
unfolding difference
Holds-difference x y r t p q = rw (sub-is r t) at (Holds-sum x (negated y) r (fraction_neg t) p (Holds-negated y t q))

-- factors in another order
together : (z : ℤ) (l u d : ℕ) → z *ℤ pos l *ℤ pos (u * d) ≡ z *ℤ pos (u * (d * l))
together z l u d = ring (z ∷ pos l ∷ pos u ∷ pos d ∷ []) (v 0 ⊗ v 1 ⊗ (v 2 ⊗ v 3)) (v 0 ⊗ (v 2 ⊗ (v 3 ⊗ v 1))) tt

doubled : (z : ℤ) (n : ℕ) → pos 2 *ℤ z *ℤ pos n ≡ z *ℤ pos n +ℤ z *ℤ pos n
doubled z n = ring (z ∷ pos n ∷ []) (lit (pos 2) ⊗ v 0 ⊗ v 1) (v 0 ⊗ v 1 ⊕ v 0 ⊗ v 1) tt

-- ---- two intervals at one exponent hold what they held
module _ (x y : Interval) (r : Fraction) (h : x.s ≤ℤ y.s) where
  pub raised-low : Holds x r → AtMost (aligned_lower x y).lo (aligned_lower x y).s r
  raised-low p = low-floor x.lo x.s (surplus x y) r p.low

  pub raised-high : Holds x r → AtLeast (aligned_lower x y).hi (aligned_lower x y).s r
  raised-high p = high-ceil x.hi x.s (surplus x y) r p.high

  pub lowered-low : Holds y r → AtMost (aligned_upper x y).lo (aligned_lower x y).s r
  lowered-low q = lift_low y.lo y.s (x.s +ℤ pos (surplus x y)) (lift x y) r (meets x.s y.s h) q.low

  pub lowered-high : Holds y r → AtLeast (aligned_upper x y).hi (aligned_lower x y).s r
  lowered-high q = lift_high y.hi y.s (x.s +ℤ pos (surplus x y)) (lift x y) r (meets x.s y.s h) q.high

pub min_bounds : (p q : ℤ) → (int_min p q ≤ℤ p) × (int_min p q ≤ℤ q)
min_bounds p q = omega (arith, ints, clamps)

pub max_bounds : (p q : ℤ) → (p ≤ℤ int_max p q) × (q ≤ℤ int_max p q)
max_bounds p q = omega (arith, ints, clamps)

-- ---- joins
module _ (x y : Interval) (r : Fraction) (h : x.s ≤ℤ y.s) where
  lower_in_join : Holds x r → Holds (join_up x y) r
  unfolding join_up
  lower_in_join p =
      Holds-narrow _ _ _ r (AtMost-less _ _ (aligned_lower x y).s r (min_bounds (aligned_lower x y).lo (aligned_upper x y).lo).0 (raised-low x y r h p)) (AtLeast-more _ _ (aligned_lower x y).s r (max_bounds (aligned_lower x y).hi (aligned_upper x y).hi).0 (raised-high x y r h p))

  upper_in_join : Holds y r → Holds (join_up x y) r
  unfolding join_up
  upper_in_join q =
      Holds-narrow _ _ _ r (AtMost-less _ _ (aligned_lower x y).s r (min_bounds (aligned_lower x y).lo (aligned_upper x y).lo).1 (lowered-low x y r h q)) (AtLeast-more _ _ (aligned_lower x y).s r (max_bounds (aligned_lower x y).hi (aligned_upper x y).hi).1 (lowered-high x y r h q))

-- the lower of the two comes first
joined : (x y : Interval) (r : Fraction) → (x.s ≤ℤ y.s → Holds (join_up x y) r) → (y.s ≤ℤ x.s → Holds (join_up y x) r) → Holds (join x y) r
unfolding join
joined x y r lower upper = by (le_z x.s y.s) refl
  where
    by : (c : Bool) → le_z x.s y.s ≡ c → Holds (if c then join_up x y else join_up y x) r
    by true e = lower (omega (arith, lin))
    by false e = upper (omega (arith, lin))

pub Holds-join_first : (x y : Interval) (r : Fraction) → Holds x r → Holds (join x y) r
Holds-join_first x y r p = joined x y r (λ h. lower_in_join x y r h p) (λ h. upper_in_join y x r h p)

pub Holds-join_second : (x y : Interval) (r : Fraction) → Holds y r → Holds (join x y) r
Holds-join_second x y r q = joined x y r (λ h. upper_in_join x y r h q) (λ h. lower_in_join y x r h q)

pub Holds-join_either : (x y : Interval) (r : Fraction) → Holds x r ⊎ Holds y r → Holds (join x y) r
Holds-join_either x y r (inl p) = Holds-join_first x y r p
Holds-join_either x y r (inr q) = Holds-join_second x y r q

-- ---- meets
either : (P : ℤ → Type 0) (p q z : ℤ) → (z ≡ p) ⊎ (z ≡ q) → P p → P q → P z
either P p q z (inl e) h g = subst P (sym e) h
either P p q z (inr e) h g = subst P (sym e) g

max_low : (p q s : ℤ) (r : Fraction) → AtMost p s r → AtMost q s r → AtMost (int_max p q) s r
max_low p q s r = either (λ z. AtMost z s r) p q (int_max p q) (max_is p q)

min_high : (p q s : ℤ) (r : Fraction) → AtLeast p s r → AtLeast q s r → AtLeast (int_min p q) s r
min_high p q s r = either (λ z. AtLeast z s r) p q (int_min p q) (min_is p q)

pub Holds-meet_up : (x y : Interval) (r : Fraction) → x.s ≤ℤ y.s → Holds x r → Holds y r → Holds (meet_up x y) r
unfolding meet_up
Holds-meet_up x y r h p q =
    Holds-narrow _ _ _ r (max_low (aligned_lower x y).lo (aligned_upper x y).lo (aligned_lower x y).s r (raised-low x y r h p) (lowered-low x y r h q)) (min_high (aligned_lower x y).hi (aligned_upper x y).hi (aligned_lower x y).s r (raised-high x y r h p) (lowered-high x y r h q))

pub Holds-meet : (x y : Interval) (r : Fraction) → Holds x r → Holds y r → Holds (meet x y) r
unfolding meet
Holds-meet x y r p q = by (le_z x.s y.s) refl
  where
    by : (c : Bool) → le_z x.s y.s ≡ c → Holds (if c then meet_up x y else meet_up y x) r
    by true e = Holds-meet_up x y r (omega (arith, lin)) p q
    by false e = Holds-meet_up y x r (omega (arith, lin)) q p

-- ends between which a number lies are in order
pub ends-in_order : (l h s : ℤ) (r : Fraction) → IsFraction r → AtMost l s r → AtLeast h s r → l ≤ℤ h
ends-in_order l h s r d p q =
    le-mul_cancel l h (2 ^ up s * r.denominator) (positive_product (2 ^ up s) r.denominator (pow_pos (up s)) d) (omega (arith, lin))

-- so the ends of a meet are in order where some number lies in both
pub meet-in_order : (x y : Interval) → x.s ≤ℤ y.s → Overlaps x y → int_max (aligned_lower x y).lo (aligned_upper x y).lo ≤ℤ int_min (aligned_lower x y).hi (aligned_upper x y).hi
meet-in_order x y h o =
    ends-in_order _ _ (aligned_lower x y).s o.common o.is_fraction (max_low (aligned_lower x y).lo (aligned_upper x y).lo (aligned_lower x y).s o.common (raised-low x y o.common h o.in_first) (lowered-low x y o.common h o.in_second)) (min_high (aligned_lower x y).hi (aligned_upper x y).hi (aligned_lower x y).s o.common (raised-high x y o.common h o.in_first) (lowered-high x y o.common h o.in_second))

-- ---- scaled by 2 / length
module _ (lo hi s : ℤ) (length : ℕ) (r : Fraction) (pos_length : 0 < length) where
  scale_low : AtMost lo s r → AtMost (floor_div (pos 2 *ℤ lo) length) s (fraction_scale r length)
  scale_low h =
      let f : (floor_div (pos 2 *ℤ lo) length *ℤ pos length) ≤ℤ (pos 2 *ℤ lo) = floor_div-le (pos 2 *ℤ lo) length pos_length in
      let g : (floor_div (pos 2 *ℤ lo) length *ℤ pos length *ℤ pos (2 ^ up s * r.denominator)) ≤ℤ (pos 2 *ℤ lo *ℤ pos (2 ^ up s * r.denominator)) = le-mul (floor_div (pos 2 *ℤ lo) length *ℤ pos length) (pos 2 *ℤ lo) (pos (2 ^ up s * r.denominator)) (omega (arith, lin)) f in
      let a = together (floor_div (pos 2 *ℤ lo) length) length (2 ^ up s) r.denominator in
      let b = doubled lo (2 ^ up s * r.denominator) in
      let c = doubled r.numerator (2 ^ down s) in
      omega (arith, lin)

  scale_high : AtLeast hi s r → AtLeast (ceil_div (pos 2 *ℤ hi) length) s (fraction_scale r length)
  scale_high h =
      let f : (pos 2 *ℤ hi) ≤ℤ (ceil_div (pos 2 *ℤ hi) length *ℤ pos length) = ceil_div-ge (pos 2 *ℤ hi) length pos_length in
      let g : (pos 2 *ℤ hi *ℤ pos (2 ^ up s * r.denominator)) ≤ℤ (ceil_div (pos 2 *ℤ hi) length *ℤ pos length *ℤ pos (2 ^ up s * r.denominator)) = le-mul (pos 2 *ℤ hi) (ceil_div (pos 2 *ℤ hi) length *ℤ pos length) (pos (2 ^ up s * r.denominator)) (omega (arith, lin)) f in
      let a = together (ceil_div (pos 2 *ℤ hi) length) length (2 ^ up s) r.denominator in
      let b = doubled hi (2 ^ up s * r.denominator) in
      let c = doubled r.numerator (2 ^ down s) in
      omega (arith, lin)

  pub Holds-scale : Holds (record { lo = lo; hi = hi; s = s }) r → Holds (scale lo hi s length) (fraction_scale r length)
  unfolding scale
  Holds-scale h = Holds-narrow _ _ s (fraction_scale r length) (scale_low h.low) (scale_high h.high)
