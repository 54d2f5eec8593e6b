-- Ends in order stay in order, and so do fractions.
use Rattle.std.proofs.Common.{ℕ, ◌*◌, ◌^◌, ◌<◌, arith, [], ◌∷◌, ℤ, pos, ◌*ℤ◌, ◌≤ℤ◌, Bool, true, false}
use Rattle.std.specs.Prelude.{if◌then◌else◌}
use Rattle.std.proofs.lemmas.Nat.{pow_pos}
use Rattle.std.proofs.Math.Nat.{mul-pos}
use lib.Signed.{le_z}
use borrow.Author.Differences.{up, down}
use Rattle.spec_numbers.proofs.Floor.{ordered_quotients}
use Rattle.spec_numbers.proofs.Integers.{doubles_ordered}
use Rattle.spec_numbers.proofs.Order.{lin, le-mul, le-mul_cancel}
use Rattle.spec_numbers.proofs.Ring.{v, k as lit, ◌⊕◌, ◌⊗◌, ring}
use Rattle.spec_intervals.specs.Fraction.{Fraction, IsFraction, fraction_add}
use Rattle.spec_intervals.specs.Interval.{Interval, is_zero, surplus, lift, narrow, sum_up, sum, negated, difference, product, signed_square, scale}
use Rattle.spec_intervals.proofs.Narrow.{IsIval-narrow}
use Rattle.spec_intervals.proofs.Products.{corners_ordered}
use Rattle.spec_intervals.proofs.Squares.{signed_sq-le}
use Rattle.spec_models.specs.Ends.{IsOrdered, NoMore, in_units, slight}

pub narrow_ordered : (lo hi s : ℤ) → lo ≤ℤ hi → IsOrdered (narrow lo hi s)
narrow_ordered lo hi s h = (IsIval-narrow lo hi s h).ordered

sum_up_ordered : (x y : Interval) → IsOrdered x → IsOrdered y → IsOrdered (sum_up x y)
unfolding sum_up
sum_up_ordered x y h g =
    let a = ordered_quotients x.lo x.hi (2 ^ surplus x y) (pow_pos (surplus x y)) h in
    let b = le-mul y.lo y.hi (pos (2 ^ lift x y)) (omega (arith, lin)) g in
    narrow_ordered _ _ _ (omega (arith, lin))

pub sum_ordered : (x y : Interval) → IsOrdered x → IsOrdered y → IsOrdered (sum x y)
unfolding sum
sum_ordered x y h g = by (is_zero x) (is_zero y) (le_z x.s y.s)
  where
    by : (a b c : Bool) → IsOrdered (if a then y else (if b then x else (if c then sum_up x y else sum_up y x)))
    by true b c = g
    by false true c = h
    by false false true = sum_up_ordered x y h g
    by false false false = sum_up_ordered y x g h

pub difference_ordered : (x y : Interval) → IsOrdered x → IsOrdered y → IsOrdered (difference x y)
unfolding difference
difference_ordered x y h g = sum_ordered x (negated y) h (omega (arith, lin))

pub product_ordered : (x y : Interval) → IsOrdered (product x y)
unfolding product
product_ordered x y = narrow_ordered _ _ _ (corners_ordered x.lo x.hi y.lo y.hi)

pub signed_square_ordered : (x : Interval) → IsOrdered x → IsOrdered (signed_square x)
unfolding signed_square
signed_square_ordered x h = narrow_ordered _ _ _ (signed_sq-le x.lo x.hi h)

pub scale_ordered : (lo hi s : ℤ) (length : ℕ) → 0 < length → lo ≤ℤ hi → IsOrdered (scale lo hi s length)
unfolding scale
scale_ordered lo hi s length p h = narrow_ordered _ _ _
    (ordered_quotients (pos 2 *ℤ lo) (pos 2 *ℤ hi) length p (doubles_ordered lo hi h))

-- ---- fractions, with nothing divided
pub no_more_trans : (a b c : Fraction) → IsFraction b → NoMore a b → NoMore b c → NoMore a c
no_more_trans a b c is p q =
    let e = le-mul (a.numerator *ℤ pos b.denominator) (b.numerator *ℤ pos a.denominator) (pos c.denominator) (omega (arith, lin)) p in
    let f = le-mul (b.numerator *ℤ pos c.denominator) (c.numerator *ℤ pos b.denominator) (pos a.denominator) (omega (arith, lin)) q in
    let g = ring (a.numerator ∷ pos b.denominator ∷ pos c.denominator ∷ []) (v 0 ⊗ v 2 ⊗ v 1) (v 0 ⊗ v 1 ⊗ v 2) tt in
    let h = ring (b.numerator ∷ pos a.denominator ∷ pos c.denominator ∷ []) (v 0 ⊗ v 1 ⊗ v 2) (v 0 ⊗ v 2 ⊗ v 1) tt in
    let i = ring (c.numerator ∷ pos b.denominator ∷ pos a.denominator ∷ []) (v 0 ⊗ v 1 ⊗ v 2) (v 0 ⊗ v 2 ⊗ v 1) tt in
    le-mul_cancel (a.numerator *ℤ pos c.denominator) (c.numerator *ℤ pos a.denominator) b.denominator is (omega (arith, lin))

pub add_no_more : (a b c d : Fraction) → NoMore a b → NoMore c d → NoMore (fraction_add a c) (fraction_add b d)
add_no_more a b c d h g =
    let p = le-mul (a.numerator *ℤ pos b.denominator) (b.numerator *ℤ pos a.denominator) (pos (c.denominator * d.denominator)) (omega (arith, lin)) h in
    let q = le-mul (c.numerator *ℤ pos d.denominator) (d.numerator *ℤ pos c.denominator) (pos (a.denominator * b.denominator)) (omega (arith, lin)) g in
    let e = ring (a.numerator ∷ pos a.denominator ∷ c.numerator ∷ pos c.denominator ∷ pos b.denominator ∷ pos d.denominator ∷ [])
    ((v 0 ⊗ v 3 ⊕ v 2 ⊗ v 1) ⊗ (v 4 ⊗ v 5)) (v 0 ⊗ v 4 ⊗ (v 3 ⊗ v 5) ⊕ v 2 ⊗ v 5 ⊗ (v 1 ⊗ v 4)) tt in
    let f = ring (b.numerator ∷ pos b.denominator ∷ d.numerator ∷ pos d.denominator ∷ pos a.denominator ∷ pos c.denominator ∷ [])
    ((v 0 ⊗ v 3 ⊕ v 2 ⊗ v 1) ⊗ (v 4 ⊗ v 5)) (v 0 ⊗ v 4 ⊗ (v 5 ⊗ v 3) ⊕ v 2 ⊗ v 5 ⊗ (v 4 ⊗ v 1)) tt in
    omega (arith, lin)

pub slight_no_more : (a b : Fraction) → NoMore a b → NoMore (slight a) (slight b)
slight_no_more a b p =
    let e = le-mul (a.numerator *ℤ pos b.denominator) (b.numerator *ℤ pos a.denominator) (pos (2 ^ 58)) (omega (arith, lin)) p in
    let g = ring (a.numerator ∷ pos b.denominator ∷ []) (v 0 ⊗ (v 1 ⊗ lit (pos (2 ^ 58)))) (v 0 ⊗ v 1 ⊗ lit (pos (2 ^ 58))) tt in
    let h = ring (b.numerator ∷ pos a.denominator ∷ []) (v 0 ⊗ (v 1 ⊗ lit (pos (2 ^ 58)))) (v 0 ⊗ v 1 ⊗ lit (pos (2 ^ 58))) tt in
    omega (arith, lin)

pub slight_is_fraction : (a : Fraction) → IsFraction a → IsFraction (slight a)
slight_is_fraction a is = mul-pos is (omega arith)

-- more of one unit is more
pub more_units : (z w s : ℤ) → z ≤ℤ w → NoMore (in_units z s) (in_units w s)
more_units z w s h =
    le-mul (z *ℤ pos (2 ^ up s)) (w *ℤ pos (2 ^ up s)) (pos (2 ^ down s)) (omega (arith, lin)) (le-mul z w (pos (2 ^ up s)) (omega (arith, lin)) h)
