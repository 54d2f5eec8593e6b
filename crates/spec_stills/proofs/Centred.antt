-- The values that can be reached from the middle keep a 256th of the margin, where the steps fit it.
use Rattle.std.proofs.Common.{◌≡◌, ℕ, ◌+◌, ◌*◌, ◌^◌, max, ◌≤◌, arith, sym, subst, [], ◌∷◌, ℤ, pos, neg_ℤ, ◌+ℤ◌, ◌-ℤ◌, ◌*ℤ◌, ◌≤ℤ◌, ◌<ℤ◌, unsigned_abs}
use Rattle.std.proofs.lemmas.Int.{ints}
use Rattle.std.proofs.lemmas.Nat.{pow_pos}
use Rattle.std.proofs.Math.Nat.{mul-pos}
use borrow.Author.Differences.{up, down}
use Rattle.spec_numbers.proofs.Floor.{floor_div-le, floor_div-lt}
use Rattle.spec_numbers.proofs.Ring.{v, k as lit, ◌⊕◌, ◌⊖◌, ◌⊗◌, minus, ring}
use Rattle.spec_numbers.proofs.Order.{lin, le-mul}
use Rattle.spec_numbers.proofs.Sizes.{product_size as size_of_product}
use Rattle.spec_intervals.specs.Enclosure.{middle, offsets}
use Rattle.spec_intervals.specs.Fraction.{Fraction, IsFraction, fraction, fraction_add, fraction_mul, fraction_sub}
use Rattle.spec_intervals.specs.Interval.{Interval, product, sum}
use Rattle.spec_models.specs.Ends.{IsCorner, low_low, low_high, high_low, high_high, NoMore, greatest_end, high, in_units, low, size, slight}
use Rattle.spec_models.proofs.Ordered.{product_ordered, add_no_more, no_more_trans, slight_is_fraction, slight_no_more}
use Rattle.spec_models.proofs.ProductRoundings.{product_corner_over, product_corner_under}
use Rattle.spec_models.proofs.SumRoundings.{sum_over, sum_under}
use Rattle.spec_stills.specs.Margins.{multiple, opposite}
use Rattle.spec_stills.proofs.Fractions.{multiple_no_more, opposite_no_more, sub_no_more}
use Rattle.spec_stills.proofs.Shares.{add_is_fraction, both_shares, steps_and_little, left_above, left_below, most_of, share, share_is_fraction}
use Rattle.spec_stills.proofs.Sizes.{high_no_more, size_no_less, size_within, units_are_fraction}

-- ---- a product of ends is no greater in size than that of the sizes
record IsCornerWithin (r t : Fraction) : Type 0 where
  is_fraction : IsFraction r
  most : NoMore r t
  least : NoMore (opposite t) r

same : (r : Fraction) → NoMore r r
same r = omega (arith, lin)

module _ (x y : Interval) where
  abbrev pub sizes : Fraction
  sizes = fraction_mul (size x) (size y)

  ends_within : (a c : ℤ) → unsigned_abs a ≤ greatest_end x → unsigned_abs c ≤ greatest_end y
      → IsCornerWithin (fraction_mul (in_units a x.s) (in_units c y.s)) sizes
  ends_within a c p q =
      let m = size_of_product a c (greatest_end x) (greatest_end y) p q in
      let l = le-mul (a *ℤ c) (pos (greatest_end x * greatest_end y))
      (pos (2 ^ up x.s * 2 ^ up y.s * (2 ^ down x.s * 2 ^ down y.s))) (omega (arith, lin)) (omega (arith, lin)) in
      let h = le-mul (neg_ℤ (pos (greatest_end x * greatest_end y))) (a *ℤ c)
      (pos (2 ^ up x.s * 2 ^ up y.s * (2 ^ down x.s * 2 ^ down y.s))) (omega (arith, lin)) (omega (arith, lin)) in
      let e = apart a c in
      let f = apart (pos (greatest_end x)) (pos (greatest_end y)) in
      let i = opposed in
      record {
        is_fraction = mul-pos (pow_pos (down x.s)) (pow_pos (down y.s));
        most = omega (arith, lin);
        least = omega
            (arith, lin);
      }
    where
      apart : (a c : ℤ) → (a *ℤ c) *ℤ pos (2 ^ up x.s * 2 ^ up y.s * (2 ^ down x.s * 2 ^ down y.s))
          ≡ a *ℤ pos (2 ^ up x.s) *ℤ (c *ℤ pos (2 ^ up y.s)) *ℤ pos (2 ^ down x.s * 2 ^ down y.s)
      apart a c =
          ring (a ∷ c ∷ pos (2 ^ up x.s) ∷ pos (2 ^ up y.s) ∷ pos (2 ^ down x.s * 2 ^ down y.s) ∷ [])
          (v 0 ⊗ v 1 ⊗ (v 2 ⊗ v 3 ⊗ v 4))
          (v 0 ⊗ v 2 ⊗ (v 1 ⊗ v 3) ⊗ v 4) tt

      opposed : neg_ℤ (pos (greatest_end x * greatest_end y)) *ℤ pos (2 ^ up x.s * 2 ^ up y.s * (2 ^ down x.s * 2 ^ down y.s))
          ≡ neg_ℤ (pos (greatest_end x) *ℤ pos (2 ^ up x.s) *ℤ (pos (greatest_end y) *ℤ pos (2 ^ up y.s))) *ℤ pos
          (2 ^ down x.s * 2 ^ down y.s)
      opposed =
          ring (pos (greatest_end x) ∷ pos (greatest_end y) ∷ pos (2 ^ up x.s) ∷ pos (2 ^ up y.s) ∷ pos
          (2 ^ down x.s * 2 ^ down y.s) ∷ [])
          (minus (v 0 ⊗ v 1) ⊗ (v 2 ⊗ v 3 ⊗ v 4)) (minus (v 0 ⊗ v 2 ⊗ (v 1 ⊗ v 3)) ⊗ v 4) tt

  corner_within : (r : Fraction) → IsCorner x y r → IsCornerWithin r sizes
  corner_within r (low_low e) = subst (λ q. IsCornerWithin q sizes) (sym e) (ends_within x.lo y.lo (omega arith) (omega arith))
  corner_within r (low_high e) = subst (λ q. IsCornerWithin q sizes) (sym e) (ends_within x.lo y.hi (omega arith) (omega arith))
  corner_within r (high_low e) = subst (λ q. IsCornerWithin q sizes) (sym e) (ends_within x.hi y.lo (omega arith) (omega arith))
  corner_within r (high_high e) = subst (λ q. IsCornerWithin q sizes) (sym e)
      (ends_within x.hi y.hi (omega arith) (omega arith))

  -- the size of a product
  sizes_are_fraction : IsFraction sizes
  sizes_are_fraction = mul-pos (pow_pos (down x.s)) (pow_pos (down y.s))

  product_high : NoMore (high (product x y)) (fraction_add sizes (slight sizes))
  product_high =
      let o = product_corner_over x y in
      let c = corner_within o.corner o.is_corner in
      no_more_trans (high (product x y)) (fraction_add o.corner (slight sizes)) (fraction_add sizes (slight sizes))
      (add_is_fraction o.corner (slight sizes) c.is_fraction (slight_is_fraction sizes sizes_are_fraction))
      o.over.near (add_no_more o.corner sizes (slight sizes) (slight sizes) c.most (same (slight sizes)))

  product_low : NoMore (opposite (fraction_add sizes (slight sizes))) (low (product x y))
  product_low =
      let u = product_corner_under x y in
      let c = corner_within u.corner u.is_corner in
      let e = ring (sizes.numerator ∷ pos sizes.denominator ∷ (slight sizes).numerator ∷ pos (slight sizes).denominator ∷ [])
      (minus (v 0 ⊗ v 3 ⊕ v 2 ⊗ v 1)) (minus (v 0) ⊗ v 3 ⊖ v 2 ⊗ v 1) tt in
      subst (λ (n : ℤ). NoMore (fraction n (sizes.denominator * (slight sizes).denominator)) (low (product x y))) (sym e)
      (no_more_trans (fraction_sub (opposite sizes) (slight sizes)) (fraction_sub u.corner (slight sizes))
      (low (product x y)) (add_is_fraction u.corner (slight sizes) c.is_fraction
      (slight_is_fraction sizes sizes_are_fraction))
      (sub_no_more (opposite sizes) u.corner (slight sizes) (slight sizes) c.least (same (slight sizes))) u.under.near)

  pub product_size : NoMore (size (product x y)) (fraction_add sizes (slight sizes))
  product_size = size_within (product x y) (fraction_add sizes (slight sizes)) (product_ordered x y) product_high product_low

-- ---- the sum of a mid, and of what the steps add to it
module _ (mid step times : Interval) (g : Fraction) (positive : pos 0 <ℤ g.numerator) (is_fraction : IsFraction g)
    (mid_limited : NoMore (size mid) (share (2 ^ 52) 1 g)) (changes : NoMore (sizes step times) (share 31 32 g)) where
  abbrev added : Interval
  added = product step times

  steps_are_fraction : IsFraction (share 31 32 g)
  steps_are_fraction = share_is_fraction 31 32 g (omega arith) is_fraction

  most_is_fraction : IsFraction (most_of g)
  most_is_fraction = share_is_fraction 125 128 g (omega arith) is_fraction

  added_size : NoMore (size added) (most_of g)
  added_size =
      no_more_trans (size added) (fraction_add (sizes step times) (slight (sizes step times))) (most_of g)
      (add_is_fraction (sizes step times) (slight (sizes step times)) (sizes_are_fraction step times)
      (slight_is_fraction (sizes step times) (sizes_are_fraction step times)))
      (product_size step times)
      (no_more_trans (fraction_add (sizes step times) (slight (sizes step times)))
      (fraction_add (share 31 32 g) (slight (share 31 32 g))) (most_of g)
      (add_is_fraction (share 31 32 g) (slight (share 31 32 g)) steps_are_fraction
      (slight_is_fraction (share 31 32 g) steps_are_fraction))
      (add_no_more (sizes step times) (share 31 32 g) (slight (sizes step times)) (slight (share 31 32 g)) changes
      (slight_no_more (sizes step times) (share 31 32 g) changes))
      (steps_and_little g positive))

  added_high : NoMore (high added) (most_of g)
  added_high = no_more_trans (high added) (size added) (most_of g)
      (units_are_fraction (pos (greatest_end added)) added.s) (high_no_more added) added_size

  added_low : NoMore (opposite (most_of g)) (low added)
  added_low =
      no_more_trans (opposite (most_of g)) (opposite (size added)) (low added)
      (units_are_fraction (pos (greatest_end added)) added.s)
      (opposite_no_more (size added) (most_of g) added_size) (size_no_less added)

  lost : NoMore (slight (fraction_add (size mid) (size added))) (slight (both_shares g))
  lost =
      slight_no_more (fraction_add (size mid) (size added)) (both_shares g)
      (add_no_more (size mid) (share (2 ^ 52) 1 g) (size added) (most_of g) mid_limited added_size)

  lost_is_fraction : IsFraction (slight (fraction_add (size mid) (size added)))
  lost_is_fraction =
      slight_is_fraction (fraction_add (size mid) (size added))
      (add_is_fraction (size mid) (size added) (units_are_fraction (pos (greatest_end mid)) mid.s)
      (units_are_fraction (pos (greatest_end added)) added.s))

  shares_are_fraction : IsFraction (slight (both_shares g))
  shares_are_fraction =
      slight_is_fraction (both_shares g)
      (add_is_fraction (share (2 ^ 52) 1 g) (most_of g) (share_is_fraction (2 ^ 52) 1 g (omega arith) is_fraction)
      most_is_fraction)

  pub centred_below : NoMore (high mid) (opposite g) → NoMore (high (sum mid added)) (opposite (share 1 256 g))
  centred_below below =
      no_more_trans (high (sum mid added)) (fraction_add (fraction_add (high mid) (high added))
      (slight (fraction_add (size mid) (size added))))
      (opposite (share 1 256 g))
      (add_is_fraction (fraction_add (high mid) (high added)) (slight (fraction_add (size mid) (size added)))
      (add_is_fraction (high mid) (high added) (units_are_fraction mid.hi mid.s) (units_are_fraction added.hi added.s))
      lost_is_fraction)
      (sum_over mid added).near
      (no_more_trans (fraction_add (fraction_add (high mid) (high added)) (slight (fraction_add (size mid) (size added))))
      (fraction_add (fraction_add (opposite g) (most_of g)) (slight (both_shares g))) (opposite (share 1 256 g))
      (add_is_fraction (fraction_add (opposite g) (most_of g)) (slight (both_shares g))
      (add_is_fraction (opposite g) (most_of g) is_fraction most_is_fraction)
      shares_are_fraction)
      (add_no_more (fraction_add (high mid) (high added)) (fraction_add (opposite g) (most_of g))
      (slight (fraction_add (size mid) (size added)))
      (slight (both_shares g))
      (add_no_more (high mid) (opposite g) (high added) (most_of g) below added_high) lost)
      (left_below g positive))

  pub centred_above : NoMore g (low mid) → NoMore (share 1 256 g) (low (sum mid added))
  centred_above above =
      no_more_trans (share 1 256 g) (fraction_sub (fraction_add (low mid) (low added))
      (slight (fraction_add (size mid) (size added))))
      (low (sum mid added))
      (add_is_fraction (fraction_add (low mid) (low added)) (slight (fraction_add (size mid) (size added)))
      (add_is_fraction (low mid) (low added) (units_are_fraction mid.lo mid.s) (units_are_fraction added.lo added.s))
      lost_is_fraction)
      (no_more_trans (share 1 256 g) (fraction_sub (fraction_add g (opposite (most_of g))) (slight (both_shares g)))
      (fraction_sub (fraction_add (low mid) (low added)) (slight (fraction_add (size mid) (size added))))
      (add_is_fraction (fraction_add g (opposite (most_of g))) (slight (both_shares g))
      (add_is_fraction g (opposite (most_of g)) is_fraction most_is_fraction)
      shares_are_fraction)
      (left_above g positive)
      (sub_no_more (fraction_add g (opposite (most_of g))) (fraction_add (low mid) (low added)) (slight (both_shares g))
      (slight (fraction_add (size mid) (size added)))
      (add_no_more g (low mid) (opposite (most_of g)) (low added) above added_low) lost))
      (sum_under mid added).near

-- ---- steps that fit
-- twice the times from the middle of a span to an end are at most one more than its width
offsets_limited : (a b : ℤ) (q : ℕ) → a ≤ℤ b → unsigned_abs (b -ℤ a) ≤ q → 2 * greatest_end (offsets a b) ≤ q + 1
offsets_limited a b q o w =
    let e = floor_div-le (a +ℤ b) 2 (omega arith) in
    let f = floor_div-lt (a +ℤ b) 2 (omega arith) in
    halves (middle a b) e f
  where
    halves : (m : ℤ) → (m *ℤ pos 2) ≤ℤ (a +ℤ b) → (a +ℤ b) <ℤ (m *ℤ pos 2 +ℤ pos 2)
        → 2 * max (unsigned_abs (a -ℤ m)) (unsigned_abs (b -ℤ m)) ≤ q + 1
    halves m e f = omega (arith, ints)

pub changes_fit : (y step : Interval) (a b : ℤ) (q : ℕ) (g : Fraction) → a ≤ℤ b → unsigned_abs (b -ℤ a) ≤ q
    → NoMore (size step) (size y) → NoMore (multiple (16 * (q + 1)) (size y)) (multiple 31 g) → NoMore (sizes step (offsets a b)) (share 31 32 g)
changes_fit y step a b q g o w less fit =
    let most = no_more_trans (multiple (16 * (q + 1)) (size step)) (multiple (16 * (q + 1)) (size y)) (multiple 31 g)
    (units_are_fraction (pos (greatest_end y)) y.s)
    (multiple_no_more (16 * (q + 1)) (size step) (size y) less) fit in
    let m = offsets_limited a b q o w in
    let l = le-mul (pos (32 * greatest_end (offsets a b))) (pos (16 * (q + 1)))
    (pos (greatest_end step * 2 ^ up step.s * g.denominator)) (omega (arith, lin)) (omega (arith, lin)) in
    let e = ring (pos (greatest_end step) ∷ pos (2 ^ up step.s) ∷ pos (greatest_end (offsets a b)) ∷ pos g.denominator ∷ [])
    (lit (pos 32) ⊗ v 2 ⊗ (v 0 ⊗ v 1 ⊗ v 3)) (v 0 ⊗ v 1 ⊗ (v 2 ⊗ lit (pos 1)) ⊗ (v 3 ⊗ lit (pos 32))) tt in
    let f = ring (pos (greatest_end step) ∷ pos (2 ^ up step.s) ∷ pos (16 * (q + 1)) ∷ pos g.denominator ∷ [])
    (v 2 ⊗ (v 0 ⊗ v 1 ⊗ v 3)) (v 0 ⊗ v 1 ⊗ v 2 ⊗ v 3) tt in
    let h = ring (g.numerator ∷ pos (2 ^ down step.s) ∷ []) (v 0 ⊗ lit (pos 31) ⊗ (v 1 ⊗ lit (pos 1))) (v 0 ⊗ lit (pos 31) ⊗ v 1) tt in
    omega (arith, lin)
