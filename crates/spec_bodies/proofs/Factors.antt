-- A constant factor: its interval is not 0 and stays as it is, so that a product with it multiplies each part of the other
-- operand.
use Rattle.std.proofs.Common.{◌≡◌, ℕ, zero, suc, ◌+◌, ◌*◌, ◌^◌, ◌<◌, ◌≤◌, arith, refl, sym, subst, ◌∙◌, ℤ, pos, negsuc, ◌+ℤ◌, ◌*ℤ◌, ◌≤ℤ◌, ◌<ℤ◌, Bool, true, false, ◌&&◌, unsigned_abs}
use Rattle.std.specs.Prelude.{if◌then◌else◌}
use Rattle.std.specs.Int.{int_min, int_max}
use Rattle.std.proofs.lemmas.Int.{ints, clamps, unsigned_abs-mul}
use Rattle.std.proofs.Math.IntN.{*ℤ-zero}
use Rattle.std.proofs.Math.Nat.{one-le-pow}
use borrow.Author.Differences.{up, down}
use lib.Signed.{lt_z}
use Rattle.spec_text.specs.declared.decimals.Decimal.{Decimal}
use Rattle.spec_intervals.specs.Interval.{Interval, interval, end_limit, cosine_exponent, narrow_shift, zero_end, settled, narrow_by, narrow, sum, is_zero, least4, greatest4, product, meet_up, meet, zero_interval}
use Rattle.spec_numbers.proofs.Booleans.{not_both}
use Rattle.spec_numbers.specs.Numbers.{floor_div, ceil_div}
use Rattle.spec_numbers.proofs.Integers.{times_one}
use Rattle.spec_numbers.proofs.Order.{lin}
use Rattle.spec_numbers.proofs.Floor.{floor_div-lt, floor_div-small, ceil_div-small, floor_div-one as floor_one, ceil_div-one as ceil_one}
use Rattle.spec_ephemeris.specs.Header.{IsMassRatio}
use Rattle.spec_intervals.specs.Enclosure.{Enclosure, offsets, centred, enclosure, constant_of, product_of}
use Rattle.spec_intervals.proofs.Offsets.{narrow-small}
use Rattle.spec_intervals.proofs.Narrow.{narrow_of_zero}
use Rattle.spec_expressions.proofs.Zeros.{product_of_zero}
use Rattle.spec_bodies.specs.declared.factor.Factor.{Factor}
use Rattle.spec_bodies.specs.declared.factor.Factor.TheVariants.{MoonShare, Cosine, Sine}
use Rattle.spec_bodies.specs.Reading.{IsFactor}
use Rattle.spec_bodies.specs.Meanings.{share_beside, factor, factor_interval}

-- ---- 0 in products and sums
pub product_by_zero : (x : Interval) → product x zero_interval ≡ zero_interval
unfolding product
product_by_zero x = rw (*ℤ-zero x.lo, *ℤ-zero x.hi) (narrow_of_zero (x.s +ℤ pos 0))

pub sum_with_zero : (x : Interval) → is_zero x ≡ false → sum x zero_interval ≡ x
unfolding sum
sum_with_zero x some = rw some refl

zero_and_zero : sum (interval (pos 0) (pos 0) (pos 0)) zero_interval ≡ interval (pos 0) (pos 0) (pos 0)
unfolding sum
zero_and_zero = refl

settled_with_zero : (lo hi s : ℤ) → sum (settled lo hi s) zero_interval ≡ settled lo hi s
unfolding settled
settled_with_zero lo hi s = by (zero_end lo && zero_end hi) refl
  where
    by : (c : Bool) → (zero_end lo && zero_end hi) ≡ c → sum (if c then interval (pos 0) (pos 0) (pos 0) else interval lo hi s) zero_interval ≡ (if c then interval (pos 0) (pos 0) (pos 0) else interval lo hi s)
    by true is = zero_and_zero
    by false is = sum_with_zero (interval lo hi s) is

pub narrowed_with_zero : (lo hi s : ℤ) → sum (narrow lo hi s) zero_interval ≡ narrow lo hi s
unfolding narrow narrow_by
narrowed_with_zero lo hi s = settled_with_zero (floor_div lo (2 ^ narrow_shift lo hi)) (ceil_div hi (2 ^ narrow_shift lo hi)) (s +ℤ pos (narrow_shift lo hi))

product_with_zero : (x y : Interval) → sum (product x y) zero_interval ≡ product x y
unfolding product
product_with_zero x y = narrowed_with_zero (least4 x.lo x.hi y.lo y.hi) (greatest4 x.lo x.hi y.lo y.hi) (x.s +ℤ y.s)

-- ---- a factor meets itself
least_of_itself : (z : ℤ) → int_min z z ≡ z
least_of_itself z = omega (arith, ints, clamps)

greatest_of_itself : (z : ℤ) → int_max z z ≡ z
greatest_of_itself z = omega (arith, ints, clamps)

settled_some : (lo hi s : ℤ) → (zero_end lo && zero_end hi) ≡ false → settled lo hi s ≡ interval lo hi s
unfolding settled
settled_some lo hi s some = rw some refl

meets_itself : (lo hi : ℤ) → unsigned_abs lo ≤ end_limit → unsigned_abs hi ≤ end_limit → (zero_end lo && zero_end hi) ≡ false
    → meet (interval lo hi cosine_exponent) (interval lo hi cosine_exponent) ≡ interval lo hi cosine_exponent
unfolding meet meet_up
meets_itself lo hi p q some =
    rw (floor_one lo, ceil_one hi, times_one lo, times_one hi, greatest_of_itself lo, least_of_itself hi)
    (narrow-small lo hi cosine_exponent p q ∙ settled_some lo hi cosine_exponent some)

meets_itself_at : (c : Interval) → IsFactor c → meet c c ≡ c
meets_itself_at c is = subst (λ s. meet (interval c.lo c.hi s) (interval c.lo c.hi s) ≡ interval c.lo c.hi s) (sym is.exponent) (meets_itself c.lo c.hi is.lo_small is.hi_small is.some)

-- a constant is the same in the middle and over the span
abbrev pub unchanging : Interval → Enclosure
unchanging c = record { mid = c; range = c; step = zero_interval }

pub constant_is : (a b : ℤ) (c : Interval) → IsFactor c → constant_of a b c ≡ unchanging c
unfolding constant_of enclosure centred
constant_is a b c is = by (lt_z a b)
  where
    plain : meet c (sum c (product zero_interval (offsets a b))) ≡ c
    plain = rw (product_of_zero (offsets a b), sum_with_zero c is.some) (meets_itself_at c is)

    by : (wide : Bool) → ◌≡◌ {A = Enclosure} (if wide then record { mid = c; range = meet c (sum c (product zero_interval (offsets a b))); step = zero_interval } else record { mid = c; range = c; step = zero_interval }) (unchanging c)
    by true = λ i. record { mid = c; range = plain i; step = zero_interval }
    by false = refl

pub times_factor : (a b : ℤ) (c : Interval) (x : Enclosure) → IsFactor c → product_of a b (constant_of a b c) x ≡ enclosure a b (product c x.mid) (product c x.range) (product c x.step)
unfolding product_of
times_factor a b c x is =
    rw (constant_is a b c is) (rw (product_by_zero x.range, product_with_zero c x.step) refl)

-- ---- the three factors
-- from 1/1001 to 1
floor_some : (n : ℤ) (d : ℕ) → 0 < d → pos d ≤ℤ n → zero_end (floor_div n d) ≡ false
floor_some n d some enough = by (floor_div n d) (floor_div-lt n d some)
  where
    by : (q : ℤ) → n <ℤ (q *ℤ pos d +ℤ pos d) → zero_end q ≡ false
    by (pos zero) less = absurd (omega (arith, lin))
    by (pos (suc k)) less = refl
    by (negsuc k) less = refl

from_fraction : (n : ℤ) (d : ℕ) → 0 < d → pos d ≤ℤ (n *ℤ pos (2 ^ 60)) → unsigned_abs (n *ℤ pos (2 ^ 60)) ≤ end_limit * d → IsFactor (factor_interval (record { numerator = n; denominator = d }))
unfolding factor_interval
from_fraction n d some enough few = record {
  exponent = refl;
  lo_small = floor_div-small (n *ℤ pos (2 ^ 60)) d end_limit some few;
  hi_small = ceil_div-small (n *ℤ pos (2 ^ 60)) d end_limit some few;
  some = not_both _ _ (floor_some (n *ℤ pos (2 ^ 60)) d some enough);
}

share_is : (ratio : Decimal) → IsMassRatio ratio → IsFactor (factor_interval (share_beside ratio))
share_is ratio is =
    let tens : 1 ≤ 10 ^ down ratio.exp = one-le-pow (down ratio.exp) 10 (omega arith) in
    let top = numerator_is ratio.mant (10 ^ up ratio.exp) (10 ^ down ratio.exp) is.least is.greatest in
    from_fraction (pos (10 ^ down ratio.exp)) (10 ^ down ratio.exp + unsigned_abs ratio.mant * 10 ^ up ratio.exp) (positive (10 ^ down ratio.exp) _ tens)
    (enough (10 ^ down ratio.exp) (unsigned_abs ratio.mant * 10 ^ up ratio.exp) top)
    (few (10 ^ down ratio.exp) (unsigned_abs ratio.mant * 10 ^ up ratio.exp))
  where
    numerator_is : (m : ℤ) (u d : ℕ) → pos (1 * d) ≤ℤ (m *ℤ pos u) → (m *ℤ pos u) ≤ℤ pos (1000 * d) → unsigned_abs m * u ≤ 1000 * d
    numerator_is m u d least greatest =
        let size : unsigned_abs (m *ℤ pos u) ≡ unsigned_abs m * u = unsigned_abs-mul m (pos u) in
        let few : unsigned_abs (m *ℤ pos u) ≤ 1000 * d = omega (arith, ints, least, greatest) in
        omega (arith, size, few)

    positive : (d n : ℕ) → 1 ≤ d → 0 < d + n
    positive d n p = omega (arith, p)

    enough : (d n : ℕ) → n ≤ 1000 * d → pos (d + n) ≤ℤ (pos d *ℤ pos (2 ^ 60))
    enough d n p = omega (arith, ints, p)

    few : (d n : ℕ) → unsigned_abs (pos d *ℤ pos (2 ^ 60)) ≤ end_limit * (d + n)
    few d n = omega arith

pub factor_is : (ratio : Decimal) → IsMassRatio ratio → (f : Factor) → IsFactor (factor_interval (factor ratio f))
factor_is ratio is MoonShare = share_is ratio is
factor_is ratio is Cosine = from_fraction _ _ (omega arith) (omega (arith, ints)) (omega arith)
factor_is ratio is Sine = from_fraction _ _ (omega arith) (omega (arith, ints)) (omega arith)

-- narrowing leaves a factor as it is
pub narrowed_factor : (n : ℤ) (d : ℕ) → 0 < d → pos d ≤ℤ (n *ℤ pos (2 ^ 60)) → unsigned_abs (n *ℤ pos (2 ^ 60)) ≤ end_limit * d
    → narrow (floor_div (n *ℤ pos (2 ^ 60)) d) (ceil_div (n *ℤ pos (2 ^ 60)) d) cosine_exponent ≡ factor_interval (record { numerator = n; denominator = d })
unfolding factor_interval
narrowed_factor n d some enough few =
    let is = from_fraction n d some enough few in
    narrow-small (floor_div (n *ℤ pos (2 ^ 60)) d) (ceil_div (n *ℤ pos (2 ^ 60)) d) cosine_exponent is.lo_small is.hi_small
    ∙ settled_some (floor_div (n *ℤ pos (2 ^ 60)) d) (ceil_div (n *ℤ pos (2 ^ 60)) d) cosine_exponent is.some
