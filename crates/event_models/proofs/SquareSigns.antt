-- The sign of a signed square is that of what is squared, if that keeps far enough from 0 for its size.
use Rattle.std.specs.Prelude.{if◌then◌else◌}
use Rattle.std.proofs.Common.{◌≡◌, ℕ, zero, suc, ◌*◌, ◌^◌, ◌<◌, ◌≤◌, ◌⊎◌, inl, inr, arith, refl, sym, ◌∙◌, [], ◌∷◌, ℤ, pos, negsuc, ◌+ℤ◌, ◌*ℤ◌, neg_ℤ, ◌≤ℤ◌, ◌<ℤ◌, Bool, true, false, unsigned_abs}
use Rattle.std.proofs.lemmas.Int.{ints}
use Rattle.std.proofs.lemmas.Nat.{mul-le, pow_pos}
use Rattle.std.proofs.Math.Nat.{mul-pos}
use Rattle.std.proofs.lemmas.Bool.{cases_lt, false≢true}
use Rattle.spec_numbers.specs.Numbers.{floor_div, ceil_div}
use Rattle.spec_numbers.proofs.Order.{lin, le-mul_cancel}
use Rattle.spec_numbers.proofs.Ring.{v, ◌⊗◌, minus, ring}
use Rattle.spec_numbers.proofs.Floor.{ceil_div-lt}
use borrow.Author.Differences.{up, down}
use Rattle.spec_intervals.specs.Interval.{Interval, fits_after, end_limit, narrow, narrow_by, narrow_shift, settled, signed_sq, signed_square}
use Rattle.spec_intervals.specs.Signs.{sign_of}
use Rattle.spec_intervals.specs.declared.signs.Sign.TheVariants.{Yes, No}
use Rattle.spec_intervals.proofs.Narrow.{narrow_shift-least, negated_product, sizes-fit}
use Rattle.spec_bounds.proofs.Signs.{sign_above, sign_below}
use Rattle.spec_chebyshev.specs.Differences.{IsArgument}
use Rattle.spec_models.specs.Ends.{IsOrdered, NoMore, high, in_units, low}
use Rattle.spec_models.specs.Models.{Covers, Model, bulk}
use Rattle.spec_models.proofs.Ordered.{signed_square_ordered}
use Rattle.spec_models.proofs.Values.{near-above}
use Rattle.span_models.specs.declared.margin.Margin.{Margin}
use Rattle.event_models.specs.Signs.{KeepFar, TellsSign, greatest_ratio}

-- ---- quotients of numbers on one side of 0
quotient_above : (z : ℤ) (d : ℕ) → 0 < d → pos 0 ≤ℤ z → pos 0 ≤ℤ floor_div z d
quotient_above (pos n) d some above = omega (arith, ints)
quotient_above (negsuc n) d some above = absurd (omega (arith, ints, above))

at_least_one : (a : ℤ) (d : ℕ) → pos 0 ≤ℤ a → pos 0 ≤ℤ (a *ℤ pos d)
at_least_one (pos n) d above = omega (arith, ints)
at_least_one (negsuc n) d above = absurd (omega (arith, ints, above))

quotient_below : (z : ℤ) (d : ℕ) → 0 < d → z ≤ℤ neg_ℤ (pos d) → ceil_div z d <ℤ pos 0
quotient_below z d some below = by (ceil_div z d) (ceil_div-lt z d some)
  where
    by : (w : ℤ) → (w *ℤ pos d) <ℤ (z +ℤ pos d) → w <ℤ pos 0
    by (pos n) less = let more = at_least_one (pos n) d (omega (arith, ints)) in absurd (omega (arith, ints, less, more, below))
    by (negsuc n) less = omega (arith, ints)

settled_above : (lo hi s : ℤ) → pos 0 ≤ℤ lo → pos 0 ≤ℤ (settled lo hi s).lo
unfolding settled
settled_above (pos zero) (pos zero) s above = omega (arith, ints)
settled_above (pos zero) (pos (suc n)) s above = above
settled_above (pos zero) (negsuc n) s above = above
settled_above (pos (suc n)) hi s above = above
settled_above (negsuc n) hi s above = above

settled_below : (lo hi s : ℤ) → hi <ℤ pos 0 → (settled lo hi s).hi <ℤ pos 0
unfolding settled
settled_below lo (pos n) s below = absurd (omega (arith, ints, below))
settled_below (pos zero) (negsuc n) s below = below
settled_below (pos (suc m)) (negsuc n) s below = below
settled_below (negsuc m) (negsuc n) s below = below

-- ---- signed squares
-- 2^k is at most the square of the nearer end, if the farther is at most 2^30 times as far from 0
module _ (a b : ℕ) (some : 1 ≤ b) (within : b ≤ a) (far : a ≤ b * greatest_ratio) where
  grown : a * a ≤ b * b * (greatest_ratio * greatest_ratio)
  grown =
      let more = mul-le a a (b * greatest_ratio) (b * greatest_ratio) far far in
      let same : pos ((b * greatest_ratio) * (b * greatest_ratio)) ≡ pos (b * b * (greatest_ratio * greatest_ratio)) =
      ring (pos b ∷ pos greatest_ratio ∷ []) ((v 0 ⊗ v 1) ⊗ (v 0 ⊗ v 1)) (v 0 ⊗ v 0 ⊗ (v 1 ⊗ v 1)) tt in
      omega (arith, ints, more, same)

  unfit_shift : (k : ℕ) → fits_after k (neg_ℤ (pos (a * a))) (neg_ℤ (pos (b * b))) ≡ false → 2 ^ suc k ≤ b * b
  unfit_shift k unfit = by (cases_lt (end_limit * 2 ^ k) (a * a))
    where
      by : (end_limit * 2 ^ k < a * a) ⊎ (a * a ≤ end_limit * 2 ^ k) → 2 ^ suc k ≤ b * b
      by (inl wide) = let most = grown in omega (arith, wide, most)
      by (inr small) =
          let less = mul-le b b a a within within in
          absurd (false≢true (sym unfit ∙ sizes-fit k (neg_ℤ (pos (a * a))) (neg_ℤ (pos (b * b))) (omega (arith, ints, small)) (omega (arith, ints, small, less))))

  shift_within : (k : ℕ) → ((j : ℕ) → j < k → fits_after j (neg_ℤ (pos (a * a))) (neg_ℤ (pos (b * b))) ≡ false) → 2 ^ k ≤ b * b
  shift_within zero unfit = let more = mul-le 1 1 b b some some in omega (arith, more)
  shift_within (suc j) unfit = unfit_shift j (unfit j (omega arith))

  narrow_below : (s : ℤ) → (narrow (neg_ℤ (pos (a * a))) (neg_ℤ (pos (b * b))) s).hi <ℤ pos 0
  unfolding narrow narrow_by
  narrow_below s =
      let k = narrow_shift (neg_ℤ (pos (a * a))) (neg_ℤ (pos (b * b))) in
      let short = shift_within k (narrow_shift-least (neg_ℤ (pos (a * a))) (neg_ℤ (pos (b * b)))) in
      settled_below _ _ _ (quotient_below (neg_ℤ (pos (b * b))) (2 ^ k) (pow_pos k) (omega (arith, ints, short)))

negative_square : (z : ℤ) → z <ℤ pos 0 → signed_sq z ≡ neg_ℤ (pos (unsigned_abs z * unsigned_abs z))
negative_square (pos n) below = absurd (omega (arith, ints, below))
negative_square (negsuc n) below = negated_product (suc n) (suc n)

square_below : (x : Interval) → IsOrdered x → x.hi <ℤ pos 0 → unsigned_abs x.lo ≤ unsigned_abs x.hi * greatest_ratio → sign_of (signed_square x) ≡ No
unfolding signed_square
square_below x ordered below far =
    let last = negative_square x.hi below in
    let first = negative_square x.lo (omega (arith, ints, ordered, below)) in
    sign_below (signed_square x) (signed_square_ordered x ordered)
    (rw (first, last) (narrow_below (unsigned_abs x.lo) (unsigned_abs x.hi) (omega (arith, ints, below)) (omega (arith, ints, ordered, below)) far (x.s +ℤ x.s)))

square_above : (x : Interval) → pos 0 ≤ℤ x.lo → sign_of (signed_square x) ≡ Yes
unfolding signed_square narrow narrow_by
square_above x above =
    sign_above (signed_square x)
    (settled_above _ _ _ (quotient_above (signed_sq x.lo) _ (pow_pos (narrow_shift (signed_sq x.lo) (signed_sq x.hi))) (at_least_one x.lo (unsigned_abs x.lo) above)))

-- ---- numbers far from 0
module _ (lo hi : ℤ) (p q size most : ℕ) (some : 0 < p) where
  above_zero : (pos size *ℤ pos q) ≤ℤ (lo *ℤ pos p) → pos 0 ≤ℤ lo
  above_zero h = le-mul_cancel (pos 0) lo p some (omega (arith, lin, h))

  below_zero : 0 < size → 0 < q → (hi *ℤ pos p) ≤ℤ (neg_ℤ (pos size) *ℤ pos q) → hi <ℤ pos 0
  below_zero a b h = by hi h
    where
      by : (z : ℤ) → (z *ℤ pos p) ≤ℤ (neg_ℤ (pos size) *ℤ pos q) → z <ℤ pos 0
      by (pos n) h =
          let more = at_least_one (pos n) p (omega (arith, ints)) in
          let less = mul-le 1 1 size q a b in
          let same = negated_product size q in
          absurd (omega (arith, ints, h, more, less, same))
      by (negsuc n) h = omega (arith, ints)

  within_ratio : most ≤ size * greatest_ratio → (hi *ℤ pos p) ≤ℤ (neg_ℤ (pos size) *ℤ pos q) → (neg_ℤ (pos most) *ℤ pos q) ≤ℤ (lo *ℤ pos p) → (pos greatest_ratio *ℤ hi) ≤ℤ lo
  within_ratio few high low =
      le-mul_cancel (pos greatest_ratio *ℤ hi) lo p some
      (let more = mul-le most q (size * greatest_ratio) q few (omega arith) in
      let first = negated_product most q in
      let second = negated_product size q in
      let third : pos greatest_ratio *ℤ hi *ℤ pos p ≡ pos greatest_ratio *ℤ (hi *ℤ pos p) = ring (pos greatest_ratio ∷ hi ∷ pos p ∷ []) (v 0 ⊗ v 1 ⊗ v 2) (v 0 ⊗ (v 1 ⊗ v 2)) tt in
      let fourth : pos (size * greatest_ratio * q) ≡ pos greatest_ratio *ℤ pos (size * q) = ring (pos size ∷ pos greatest_ratio ∷ pos q ∷ []) (v 0 ⊗ v 1 ⊗ v 2) (v 1 ⊗ (v 0 ⊗ v 2)) tt in
      omega (arith, ints, high, low, more, first, second, third, fourth))

-- ---- of an interval that a model covers
module _ (m : Model) (p q : ℤ) (x : Interval) (argument : IsArgument p q) (ordered : IsOrdered x) (covers : Covers m p q x) (g : Margin) (far : KeepFar m p q g) where
  abbrev scale : ℕ
  scale = 2 ^ up x.s * 2 ^ down g.exponent

  abbrev unit : ℕ
  unit = 2 ^ up g.exponent * 2 ^ down x.s

  some_scale : 0 < scale
  some_scale = mul-pos (pow_pos (up x.s)) (pow_pos (down g.exponent))

  some_unit : 0 < unit
  some_unit = mul-pos (pow_pos (up g.exponent)) (pow_pos (down x.s))

  of_end : (z : ℤ) → z *ℤ pos (2 ^ up x.s) *ℤ pos (2 ^ down g.exponent) ≡ z *ℤ pos scale
  of_end z = ring (z ∷ pos (2 ^ up x.s) ∷ pos (2 ^ down g.exponent) ∷ []) (v 0 ⊗ v 1 ⊗ v 2) (v 0 ⊗ (v 1 ⊗ v 2)) tt

  of_margin : (z : ℤ) → z *ℤ pos (2 ^ up g.exponent) *ℤ pos (2 ^ down x.s) ≡ z *ℤ pos unit
  of_margin z = ring (z ∷ pos (2 ^ up g.exponent) ∷ pos (2 ^ down x.s) ∷ []) (v 0 ⊗ v 1 ⊗ v 2) (v 0 ⊗ (v 1 ⊗ v 2)) tt

  low_end : g.is_above ≡ true → (pos g.size *ℤ pos unit) ≤ℤ (x.lo *ℤ pos scale)
  low_end e =
      let near = (far.keep (low x) covers.low).above e in
      let first = of_margin (pos g.size) in
      let last = of_end x.lo in
      omega (arith, lin, near, first, last)

  high_end : g.is_above ≡ false → (x.hi *ℤ pos scale) ≤ℤ (neg_ℤ (pos g.size) *ℤ pos unit)
  high_end e =
      let near = (far.keep (high x) covers.high).below e in
      let first = of_margin (neg_ℤ (pos g.size)) in
      let last = of_end x.hi in
      let same : neg_ℤ (pos g.size *ℤ pos (2 ^ up g.exponent)) *ℤ pos (2 ^ down x.s) ≡ neg_ℤ (pos g.size) *ℤ pos (2 ^ up g.exponent) *ℤ pos (2 ^ down x.s) =
      ring (pos g.size ∷ pos (2 ^ up g.exponent) ∷ pos (2 ^ down x.s) ∷ []) (minus (v 0 ⊗ v 1) ⊗ v 2) (minus (v 0) ⊗ v 1 ⊗ v 2) tt in
      omega (arith, lin, near, first, last, same)

  farthest : (neg_ℤ (pos (bulk m)) *ℤ pos unit) ≤ℤ (x.lo *ℤ pos scale)
  farthest =
      let near : NoMore (in_units (neg_ℤ (pos (bulk m))) g.exponent) (low x) = rw far.unit (near-above p q argument m (low x) covers.low) in
      let first = of_margin (neg_ℤ (pos (bulk m))) in
      let last = of_end x.lo in
      omega (arith, lin, near, first, last)

  positive : 0 < g.size
  positive = (far.keep (low x) covers.low).some

  sign_of_square : sign_of (signed_square x) ≡ (if g.is_above then Yes else No)
  sign_of_square = by g.is_above refl
    where
      by : (above : Bool) → g.is_above ≡ above → sign_of (signed_square x) ≡ (if above then Yes else No)
      by true e = square_above x (above_zero x.lo x.hi scale unit g.size (bulk m) some_scale (low_end e))
      by false e =
          let below = below_zero x.lo x.hi scale unit g.size (bulk m) some_scale positive some_unit (high_end e) in
          let ratio = within_ratio x.lo x.hi scale unit g.size (bulk m) some_scale far.far (high_end e) farthest in
          square_below x ordered below (omega (arith, ints, below, ratio, ordered))

-- the model of what is squared tells the signs of its signed square
pub square_told : (m : Model) (p q : ℤ) (x : Interval) → IsArgument p q → IsOrdered x → Covers m p q x → TellsSign m p q (signed_square x)
square_told m p q x argument ordered covers g far = sign_of_square m p q x argument ordered covers g far
