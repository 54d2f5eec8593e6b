-- Between which limits each rule on intervals keeps an exponent. An exponent falls by products alone, and rises by
-- narrowing.
use Rattle.std.proofs.Common.{◌≡◌, ℕ, ◌+◌, ◌*◌, ◌^◌, max, ◌<◌, ◌≤◌, arith, refl, ℤ, pos, ◌+ℤ◌, ◌*ℤ◌, neg_ℤ, ◌≤ℤ◌, Bool, true, false, ◌&&◌, unsigned_abs}
use Rattle.std.specs.Prelude.{if◌then◌else◌}
use Rattle.std.proofs.lemmas.Int.{ints, unsigned_abs-mul}
use Rattle.std.proofs.lemmas.Nat.{pow-add, pow_pos, mul-le}
use Rattle.std.proofs.Math.Nat.{one-le-pow, mul_assoc}
use Rattle.std.specs.Int.{int_min, int_max}
use borrow.Author.Differences.{up, down}
use lib.Signed.{le_z}
use Rattle.spec_numbers.specs.Numbers.{floor_div, ceil_div}
use Rattle.spec_numbers.proofs.Order.{lin}
use Rattle.spec_numbers.proofs.Floor.{floor_div-small, ceil_div-small}
use Rattle.spec_numbers.proofs.Sizes.{unsigned_abs-neg, sum_size, product_size, either_size, four_sizes}
use Rattle.spec_intervals.specs.Interval.{Interval, zero_interval, end_limit, narrow_shift, zero_end, settled, narrow_by, narrow, surplus, lift, sum_up, sum, is_zero, negated, difference, least4, greatest4, product, meet_up, meet, signed_sq, signed_square, decimal_top, decimal_bottom, from_decimal, distance_exponent, cosine_exponent, IsDistance, IsCosine}
use Rattle.spec_intervals.specs.Enclosure.{IsWithin, twice_size}
use Rattle.spec_intervals.proofs.Narrow.{is_small-both, sizes-fit, narrow_shift-fits, narrow_shift-le}
use Rattle.spec_intervals.proofs.Sums.{meets}

-- small ends, and an exponent from -l to h
pub record IsBetween (l h : ℕ) (t : Interval) : Type 0 where
  pub lo_small : unsigned_abs t.lo ≤ end_limit
  pub hi_small : unsigned_abs t.hi ≤ end_limit
  pub low : neg_ℤ (pos l) ≤ℤ t.s
  pub high : t.s ≤ℤ pos h

pub record HasSmallEnds (t : Interval) : Type 0 where
  pub lo_small : unsigned_abs t.lo ≤ end_limit
  pub hi_small : unsigned_abs t.hi ≤ end_limit

pub small_ends : (l h : ℕ) (t : Interval) → IsBetween l h t → HasSmallEnds t
small_ends l h t is = record { lo_small = is.lo_small; hi_small = is.hi_small }

pub between-more : (l h m n : ℕ) (t : Interval) → l ≤ m → h ≤ n → IsBetween l h t → IsBetween m n t
between-more l h m n t p q is =
    let low = is.low in
    let high = is.high in
    record { lo_small = is.lo_small; hi_small = is.hi_small; low = omega (arith, ints, p, low); high = omega (arith, ints, q, high) }

pub between-within : (l h n : ℕ) (t : Interval) → l ≤ n → h ≤ n → IsBetween l h t → IsWithin n t
between-within l h n t p q is =
    let low = is.low in
    let high = is.high in
    record { lo_small = is.lo_small; hi_small = is.hi_small; exponent = omega (arith, ints, p, q, low, high) }

pub within-between : (n : ℕ) (t : Interval) → IsWithin n t → IsBetween n n t
within-between n t is =
    let size = is.exponent in
    record { lo_small = is.lo_small; hi_small = is.hi_small; low = omega (arith, ints, size); high = omega (arith, ints, size) }

pub IsWithin-more : (m n : ℕ) (t : Interval) → m ≤ n → IsWithin m t → IsWithin n t
IsWithin-more m n t p is = between-within m m n t p p (within-between m t is)

pub zero-between : (l h : ℕ) → IsBetween l h zero_interval
zero-between l h = record { lo_small = omega arith; hi_small = omega arith; low = omega (arith, ints); high = omega (arith, ints) }

-- ---- narrowing: ends that m halvings bring within the limit
settled-between : (lo hi s : ℤ) (l h : ℕ) → unsigned_abs lo ≤ end_limit → unsigned_abs hi ≤ end_limit → neg_ℤ (pos l) ≤ℤ s → s ≤ℤ pos h → IsBetween l h (settled lo hi s)
unfolding settled
settled-between lo hi s l h p q low high = by (zero_end lo && zero_end hi)
  where
    by : (c : Bool) → IsBetween l h (if c then zero_interval else record { lo = lo; hi = hi; s = s })
    by true = zero-between l h
    by false = record { lo_small = p; hi_small = q; low = low; high = high }

pub narrow-between : (m l h : ℕ) (lo hi s : ℤ) → unsigned_abs lo ≤ end_limit * 2 ^ m → unsigned_abs hi ≤ end_limit * 2 ^ m → neg_ℤ (pos l) ≤ℤ s → (s +ℤ pos m) ≤ℤ pos h → IsBetween l h (narrow lo hi s)
unfolding narrow narrow_by
narrow-between m l h lo hi s a b low high =
    let least : narrow_shift lo hi ≤ m = narrow_shift-le m lo hi (sizes-fit m lo hi a b) in
    let small = is_small-both (floor_div lo (2 ^ narrow_shift lo hi)) (ceil_div hi (2 ^ narrow_shift lo hi)) (narrow_shift-fits lo hi) in
    settled-between (floor_div lo (2 ^ narrow_shift lo hi)) (ceil_div hi (2 ^ narrow_shift lo hi)) (s +ℤ pos (narrow_shift lo hi)) l h small.0 small.1 (omega (arith, ints, low)) (omega (arith, ints, high, least))

pub narrow-within : (m n : ℕ) (lo hi s : ℤ) → unsigned_abs lo ≤ end_limit * 2 ^ m → unsigned_abs hi ≤ end_limit * 2 ^ m → neg_ℤ (pos n) ≤ℤ s → (s +ℤ pos m) ≤ℤ pos n → IsWithin n (narrow lo hi s)
narrow-within m n lo hi s a b low high = between-within n n n _ (omega arith) (omega arith) (narrow-between m n n lo hi s a b low high)

-- ---- products
corner_size : (a b : ℤ) → unsigned_abs a ≤ end_limit → unsigned_abs b ≤ end_limit → unsigned_abs (a *ℤ b) ≤ end_limit * 2 ^ 62
corner_size a b p q = product_size a b end_limit (2 ^ 62) p q

pub product-between : (x y : Interval) (l h : ℕ) → HasSmallEnds x → HasSmallEnds y → neg_ℤ (pos l) ≤ℤ (x.s +ℤ y.s) → (x.s +ℤ y.s +ℤ pos 62) ≤ℤ pos h → IsBetween l h (product x y)
unfolding product
product-between x y l h p q low high =
    let sizes = four_sizes (x.lo *ℤ y.lo) (x.lo *ℤ y.hi) (x.hi *ℤ y.lo) (x.hi *ℤ y.hi) (end_limit * 2 ^ 62) (corner_size x.lo y.lo p.lo_small q.lo_small) (corner_size x.lo y.hi p.lo_small q.hi_small) (corner_size x.hi y.lo p.hi_small q.lo_small) (corner_size x.hi y.hi p.hi_small q.hi_small) in
    narrow-between 62 l h (least4 x.lo x.hi y.lo y.hi) (greatest4 x.lo x.hi y.lo y.hi) (x.s +ℤ y.s) sizes.0 sizes.1 low high

-- the limits of a product from those of its factors
pub factors-between : (x y : Interval) (l h m n : ℕ) → IsBetween l h x → IsBetween m n y → IsBetween (l + m) (h + n + 62) (product x y)
factors-between x y l h m n p q =
    let a = p.low in
    let b = p.high in
    let c = q.low in
    let d = q.high in
    product-between x y (l + m) (h + n + 62) (small_ends l h x p) (small_ends m n y q) (omega (arith, ints, a, c)) (omega (arith, ints, b, d))

pub product-within : (x y : Interval) (m n : ℕ) → IsWithin m x → IsWithin n y → IsWithin (m + n + 62) (product x y)
product-within x y m n p q =
    between-within (m + n) (m + n + 62) (m + n + 62) _ (omega arith) (omega arith) (factors-between x y m m n n (within-between m x p) (within-between n y q))

-- ---- sums, differences and meets: the ends at one exponent
under : (a k : ℕ) → a ≤ end_limit → a ≤ end_limit * 2 ^ k
under a k p = let o : 1 ≤ 2 ^ k = one-le-pow k 2 (omega arith) in omega arith

lifted_size : (q : ℤ) (k : ℕ) → unsigned_abs q ≤ end_limit → unsigned_abs (q *ℤ pos (2 ^ k)) ≤ end_limit * 2 ^ k
lifted_size q k g = product_size q (pos (2 ^ k)) end_limit (2 ^ k) g (omega arith)

floor_size : (z : ℤ) (k : ℕ) → unsigned_abs z ≤ end_limit → unsigned_abs (floor_div z (2 ^ k)) ≤ end_limit
floor_size z k p = floor_div-small z (2 ^ k) end_limit (pow_pos k) (under (unsigned_abs z) k p)

ceil_size : (z : ℤ) (k : ℕ) → unsigned_abs z ≤ end_limit → unsigned_abs (ceil_div z (2 ^ k)) ≤ end_limit
ceil_size z k p = ceil_div-small z (2 ^ k) end_limit (pow_pos k) (under (unsigned_abs z) k p)

end_size : (p q : ℤ) (k : ℕ) → unsigned_abs p ≤ end_limit → unsigned_abs q ≤ end_limit → unsigned_abs (p +ℤ q *ℤ pos (2 ^ k)) ≤ end_limit * 2 ^ (k + 1)
end_size p q k h g =
    let e : 2 ^ (k + 1) ≡ 2 ^ k * 2 = pow-add 2 k 1 in
    let s = sum_size p (q *ℤ pos (2 ^ k)) (end_limit * 2 ^ k) (end_limit * 2 ^ k) (under (unsigned_abs p) k h) (lifted_size q k g) in
    omega arith

low_side : (a : ℤ) (k l : ℕ) → neg_ℤ (pos l) ≤ℤ a → neg_ℤ (pos l) ≤ℤ (a +ℤ pos k)
low_side a k l p = omega (arith, ints)

high_side : (a b : ℤ) (k m h : ℕ) → b ≡ a +ℤ pos k → b ≤ℤ pos h → (a +ℤ pos (k + m)) ≤ℤ pos (h + m)
high_side a b k m h e p = omega (arith, ints)

high_same : (a b : ℤ) (k h : ℕ) → b ≡ a +ℤ pos k → b ≤ℤ pos h → (a +ℤ pos k) ≤ℤ pos h
high_same a b k h e p = omega (arith, ints)

module _ (x y : Interval) (l h : ℕ) (o : x.s ≤ℤ y.s) (p : IsBetween l h x) (q : IsBetween l h y) where
  sum_up-between : IsBetween l (h + 1) (sum_up x y)
  unfolding sum_up
  sum_up-between =
      narrow-between (lift x y + 1) l (h + 1) (floor_div x.lo (2 ^ surplus x y) +ℤ y.lo *ℤ pos (2 ^ lift x y)) (ceil_div x.hi (2 ^ surplus x y) +ℤ y.hi *ℤ pos (2 ^ lift x y)) (x.s +ℤ pos (surplus x y)) (end_size (floor_div x.lo (2 ^ surplus x y)) y.lo (lift x y) (floor_size x.lo (surplus x y) p.lo_small) q.lo_small) (end_size (ceil_div x.hi (2 ^ surplus x y)) y.hi (lift x y) (ceil_size x.hi (surplus x y) p.hi_small) q.hi_small) (low_side x.s (surplus x y) l p.low) (high_side (x.s +ℤ pos (surplus x y)) y.s (lift x y) 1 h (meets x.s y.s o) q.high)

  meet_up-between : IsBetween l h (meet_up x y)
  unfolding meet_up
  meet_up-between =
      let lows = either_size (floor_div x.lo (2 ^ surplus x y)) (y.lo *ℤ pos (2 ^ lift x y)) (end_limit * 2 ^ lift x y) (under _ (lift x y) (floor_size x.lo (surplus x y) p.lo_small)) (lifted_size y.lo (lift x y) q.lo_small) in
      let highs = either_size (ceil_div x.hi (2 ^ surplus x y)) (y.hi *ℤ pos (2 ^ lift x y)) (end_limit * 2 ^ lift x y) (under _ (lift x y) (ceil_size x.hi (surplus x y) p.hi_small)) (lifted_size y.hi (lift x y) q.hi_small) in
      narrow-between (lift x y) l h (int_max (floor_div x.lo (2 ^ surplus x y)) (y.lo *ℤ pos (2 ^ lift x y))) (int_min (ceil_div x.hi (2 ^ surplus x y)) (y.hi *ℤ pos (2 ^ lift x y))) (x.s +ℤ pos (surplus x y)) lows.0 highs.1 (low_side x.s (surplus x y) l p.low) (high_same (x.s +ℤ pos (surplus x y)) y.s (lift x y) h (meets x.s y.s o) q.high)

pub sum-between : (x y : Interval) (l h : ℕ) → IsBetween l h x → IsBetween l h y → IsBetween l (h + 1) (sum x y)
unfolding sum
sum-between x y l h p q = by (is_zero x) (is_zero y) (le_z x.s y.s) refl
  where
    by : (a b c : Bool) → le_z x.s y.s ≡ c → IsBetween l (h + 1) (if a then y else (if b then x else (if c then sum_up x y else sum_up y x)))
    by true b c e = between-more l h l (h + 1) y (omega arith) (omega arith) q
    by false true c e = between-more l h l (h + 1) x (omega arith) (omega arith) p
    by false false true e = sum_up-between x y l h (omega (arith, lin)) p q
    by false false false e = sum_up-between y x l h (omega (arith, lin)) q p

pub sum-within : (x y : Interval) (n : ℕ) → IsWithin n x → IsWithin n y → IsWithin (n + 1) (sum x y)
sum-within x y n p q =
    between-within n (n + 1) (n + 1) _ (omega arith) (omega arith) (sum-between x y n n (within-between n x p) (within-between n y q))

pub difference-between : (x y : Interval) (l h : ℕ) → IsBetween l h x → IsBetween l h y → IsBetween l (h + 1) (difference x y)
unfolding difference
difference-between x y l h p q =
    sum-between x (negated y) l h p (record { lo_small = rw (unsigned_abs-neg y.hi) q.hi_small; hi_small = rw (unsigned_abs-neg y.lo) q.lo_small; low = q.low; high = q.high })

pub difference-within : (x y : Interval) (n : ℕ) → IsWithin n x → IsWithin n y → IsWithin (n + 1) (difference x y)
difference-within x y n p q =
    between-within n (n + 1) (n + 1) _ (omega arith) (omega arith) (difference-between x y n n (within-between n x p) (within-between n y q))

pub meet-between : (x y : Interval) (l h : ℕ) → IsBetween l h x → IsBetween l h y → IsBetween l h (meet x y)
unfolding meet
meet-between x y l h p q = by (le_z x.s y.s) refl
  where
    by : (c : Bool) → le_z x.s y.s ≡ c → IsBetween l h (if c then meet_up x y else meet_up y x)
    by true e = meet_up-between x y l h (omega (arith, lin)) p q
    by false e = meet_up-between y x l h (omega (arith, lin)) q p

-- ---- signed squares and sizes
pub signed_square-between : (t : Interval) (l h : ℕ) → IsBetween l h t → IsBetween (l + l) (h + h + 62) (signed_square t)
unfolding signed_square
signed_square-between t l h p =
    let low = p.low in
    let high = p.high in
    narrow-between 62 (l + l) (h + h + 62) (signed_sq t.lo) (signed_sq t.hi) (t.s +ℤ t.s) (corner_size t.lo (pos (unsigned_abs t.lo)) p.lo_small p.lo_small) (corner_size t.hi (pos (unsigned_abs t.hi)) p.hi_small p.hi_small) (omega (arith, ints, low)) (omega (arith, ints, high))

pub signed_square-within : (t : Interval) (n : ℕ) → IsWithin n t → IsWithin (n + n + 62) (signed_square t)
signed_square-within t n p =
    between-within (n + n) (n + n + 62) (n + n + 62) _ (omega arith) (omega arith) (signed_square-between t n n (within-between n t p))

pub twice_size-between : (t : Interval) (l h : ℕ) → IsBetween l h t → IsBetween l (h + 1) (twice_size t)
unfolding twice_size
twice_size-between t l h p =
    let u = p.lo_small in
    let w = p.hi_small in
    let high = p.high in
    narrow-between 1 l (h + 1) (pos 0) (pos (2 * max (unsigned_abs t.lo) (unsigned_abs t.hi))) t.s (omega arith) (omega arith) p.low (omega (arith, ints, high))

pub twice_size-within : (t : Interval) (n : ℕ) → IsWithin n t → IsWithin (n + 1) (twice_size t)
twice_size-within t n p =
    between-within n (n + 1) (n + 1) _ (omega arith) (omega arith) (twice_size-between t n n (within-between n t p))

-- ---- constants
top_size : (m : ℤ) (a b c : ℕ) → unsigned_abs m * a ≤ c → unsigned_abs (m *ℤ pos (a * b)) ≤ c * b
top_size m a b c h =
    rw (unsigned_abs-mul m (pos (a * b))) (rw (← mul_assoc (unsigned_abs m) a b) (mul-le (unsigned_abs m * a) b c b h (omega arith)))

constant-within : (m q : ℤ) (k : ℕ) → unsigned_abs (decimal_top m q (neg_ℤ (pos k))) ≤ end_limit * decimal_bottom q (neg_ℤ (pos k)) → 0 < decimal_bottom q (neg_ℤ (pos k)) → IsWithin k (from_decimal m q (neg_ℤ (pos k)))
unfolding from_decimal
constant-within m q k h p =
    record { lo_small = floor_div-small (decimal_top m q (neg_ℤ (pos k))) (decimal_bottom q (neg_ℤ (pos k))) end_limit p h; hi_small = ceil_div-small (decimal_top m q (neg_ℤ (pos k))) (decimal_bottom q (neg_ℤ (pos k))) end_limit p h; exponent = omega (arith, ints) }

pub distance-within : (m q : ℤ) → IsDistance m q → IsWithin 24 (from_decimal m q distance_exponent)
distance-within m q h =
    let o : 1 ≤ 10 ^ down q = one-le-pow (down q) 10 (omega arith) in
    let t = top_size m (10 ^ up q) (2 ^ 24) (2 ^ 36 * 10 ^ down q) (omega arith) in
    constant-within m q 24 (omega arith) (omega arith)

pub cosine-within : (m q : ℤ) → IsCosine m q → IsWithin 60 (from_decimal m q cosine_exponent)
cosine-within m q h =
    let o : 1 ≤ 10 ^ down q = one-le-pow (down q) 10 (omega arith) in
    let t = top_size m (10 ^ up q) (2 ^ 60) (10 ^ down q) h in
    constant-within m q 60 (omega arith) (omega arith)
