-- Intervals, and the rules by which one is made from others.
-- Every rule rounds outward, low ends down and high ends up, and answers the same bits for the same operands.
use Rattle.std.specs.Prelude.{ℕ, zero, suc, ◌+◌, ◌-◌, ◌*◌, ◌^◌, ◌<◌, min, Bool, true, false, ◌&&◌, nat_le, if◌then◌else◌, ◌≤◌, ◌≤ℤ◌, ℤ, pos, negsuc, ◌+ℤ◌, ◌-ℤ◌, ◌*ℤ◌, neg_ℤ, unsigned_abs}
use Rattle.std.specs.Int.{int_min, int_max, int_gap}
use borrow.Author.Differences.{up, down}
use lib.Signed.{le_z}
use Rattle.spec_numbers.specs.Numbers.{floor_div, ceil_div}

-- all numbers from lo * 2^s to hi * 2^s
pub record Interval : Type 0 where
  pub lo : ℤ
  pub hi : ℤ
  pub s : ℤ

abbrev pub interval : ℤ → ℤ → ℤ → Interval
interval lo hi s = record { lo = lo; hi = hi; s = s }

-- 0 alone
abbrev pub zero_interval : Interval
zero_interval = interval (pos 0) (pos 0) (pos 0)

-- the greatest size of an end, so that the product of two ends is within 128 bits
abbrev pub end_limit : ℕ
end_limit = 2 ^ 62

-- by how many powers of 2 an end is multiplied at most where two intervals are brought to one exponent
abbrev pub lift_limit : ℕ
lift_limit = 60

-- the greatest size of an exponent that the calls take
abbrev pub exponent_limit : ℕ
exponent_limit = 65536

abbrev pub IsExponent : ℤ → Type 0
IsExponent s = unsigned_abs s ≤ exponent_limit

-- an interval of the code: its ends are in order, and neither is past the limit
pub record IsIval (t : Interval) : Type 0 where
  pub ordered : t.lo ≤ℤ t.hi
  pub lo_small : unsigned_abs t.lo ≤ end_limit
  pub hi_small : unsigned_abs t.hi ≤ end_limit

-- ---- narrowing: both ends are halved together, as often as it takes until neither is past the limit
abbrev pub is_small : ℤ → Bool
is_small z = nat_le (unsigned_abs z) end_limit

-- whether k halvings are enough
abbrev pub fits_after : ℕ → ℤ → ℤ → Bool
fits_after k lo hi = is_small (floor_div lo (2 ^ k)) && is_small (ceil_div hi (2 ^ k))

-- the first of k, k + 1, .., k + n that is enough
unfoldable pub first_fit : ℕ → ℕ → ℤ → ℤ → ℕ
first_fit zero k lo hi = k
first_fit (suc n) k lo hi = elim (fits_after k lo hi) [ true ↦ k | false ↦ first_fit n (suc k) lo hi ]

-- the least number of halvings that is enough; a number as great as both sizes together always is
unfoldable pub narrow_shift : ℤ → ℤ → ℕ
narrow_shift lo hi = first_fit (unsigned_abs lo + unsigned_abs hi) 0 lo hi

abbrev pub zero_end : ℤ → Bool
zero_end (pos zero) = true
zero_end (pos (suc n)) = false
zero_end (negsuc n) = false

-- where both ends are 0, the exponent is 0
unfoldable pub settled : ℤ → ℤ → ℤ → Interval
settled lo hi s = if zero_end lo && zero_end hi then zero_interval else interval lo hi s

unfoldable pub narrow_by : ℕ → ℤ → ℤ → ℤ → Interval
narrow_by k lo hi s = settled (floor_div lo (2 ^ k)) (ceil_div hi (2 ^ k)) (s +ℤ pos k)

unfoldable pub narrow : ℤ → ℤ → ℤ → Interval
narrow lo hi s = narrow_by (narrow_shift lo hi) lo hi s

-- ---- the product: the least and the greatest of the four products of ends
abbrev pub least4 : ℤ → ℤ → ℤ → ℤ → ℤ
least4 a b c d = int_min (int_min (a *ℤ c) (a *ℤ d)) (int_min (b *ℤ c) (b *ℤ d))

abbrev pub greatest4 : ℤ → ℤ → ℤ → ℤ → ℤ
greatest4 a b c d = int_max (int_max (a *ℤ c) (a *ℤ d)) (int_max (b *ℤ c) (b *ℤ d))

unfoldable pub product : Interval → Interval → Interval
product x y = narrow (least4 x.lo x.hi y.lo y.hi) (greatest4 x.lo x.hi y.lo y.hi) (x.s +ℤ y.s)

-- ---- one exponent for two intervals
-- the interval at an exponent k higher, rounded outward
abbrev pub raised : ℕ → Interval → Interval
raised k x = interval (floor_div x.lo (2 ^ k)) (ceil_div x.hi (2 ^ k)) (x.s +ℤ pos k)

-- the interval at an exponent m lower, the same numbers
abbrev pub lowered : ℕ → Interval → Interval
lowered m y = interval (y.lo *ℤ pos (2 ^ m)) (y.hi *ℤ pos (2 ^ m)) (y.s -ℤ pos m)

-- for x.s <= y.s, at a distance d: y is lowered by d, but by no more than the limit, and x is raised by the rest
abbrev pub lift : Interval → Interval → ℕ
lift x y = min (int_gap x.s y.s) lift_limit

abbrev pub surplus : Interval → Interval → ℕ
surplus x y = int_gap x.s y.s - lift_limit

abbrev pub aligned_lower : Interval → Interval → Interval
aligned_lower x y = raised (surplus x y) x

abbrev pub aligned_upper : Interval → Interval → Interval
aligned_upper x y = lowered (lift x y) y

-- ---- the sum
unfoldable pub sum_up : Interval → Interval → Interval
sum_up x y = narrow ((aligned_lower x y).lo +ℤ (aligned_upper x y).lo) ((aligned_lower x y).hi +ℤ (aligned_upper x y).hi) (aligned_lower x y).s

abbrev pub is_zero : Interval → Bool
is_zero t = zero_end t.lo && zero_end t.hi

-- an interval of 0 alone changes nothing; else the ends are added at one exponent
unfoldable pub sum : Interval → Interval → Interval
sum x y = if is_zero x then y else (if is_zero y then x else (if le_z x.s y.s then sum_up x y else sum_up y x))

-- ---- the difference: the sum with the second interval turned round 0
abbrev pub negated : Interval → Interval
negated x = interval (neg_ℤ x.hi) (neg_ℤ x.lo) x.s

unfoldable pub difference : Interval → Interval → Interval
difference x y = sum x (negated y)

-- ---- join and meet, at one exponent: from the lesser low end to the greater high end, and from the greater low end
-- to the lesser high end
unfoldable pub join_up : Interval → Interval → Interval
join_up x y = narrow (int_min (aligned_lower x y).lo (aligned_upper x y).lo) (int_max (aligned_lower x y).hi (aligned_upper x y).hi) (aligned_lower x y).s

unfoldable pub join : Interval → Interval → Interval
join x y = if le_z x.s y.s then join_up x y else join_up y x

unfoldable pub meet_up : Interval → Interval → Interval
meet_up x y = narrow (int_max (aligned_lower x y).lo (aligned_upper x y).lo) (int_min (aligned_lower x y).hi (aligned_upper x y).hi) (aligned_lower x y).s

unfoldable pub meet : Interval → Interval → Interval
meet x y = if le_z x.s y.s then meet_up x y else meet_up y x

-- ---- the signed square x |x|, which grows with x
abbrev pub signed_sq : ℤ → ℤ
signed_sq z = z *ℤ pos (unsigned_abs z)

unfoldable pub signed_square : Interval → Interval
signed_square x = narrow (signed_sq x.lo) (signed_sq x.hi) (x.s +ℤ x.s)

-- ---- 2 / length times the numbers: over a span of that length an argument goes from -1 to 1, by 2 / length a second
unfoldable pub scale : ℤ → ℤ → ℤ → ℕ → Interval
scale lo hi s length = narrow (floor_div (pos 2 *ℤ lo) length) (ceil_div (pos 2 *ℤ hi) length) s

-- ---- m * 10^q at the exponent s: rounded down and up, and not narrowed, so that 0 keeps the exponent s
-- m * 10^q * 2^(-s) = decimal_top / decimal_bottom
abbrev pub decimal_top : ℤ → ℤ → ℤ → ℤ
decimal_top m q s = m *ℤ pos (10 ^ up q * 2 ^ down s)

abbrev pub decimal_bottom : ℤ → ℤ → ℕ
decimal_bottom q s = 10 ^ down q * 2 ^ up s

unfoldable pub from_decimal : ℤ → ℤ → ℤ → Interval
from_decimal m q s = interval (floor_div (decimal_top m q s) (decimal_bottom q s)) (ceil_div (decimal_top m q s) (decimal_bottom q s)) s

-- the two exponents at which decimals are taken, and the sizes there, which keep the ends within 2^60
abbrev pub distance_exponent : ℤ
distance_exponent = neg_ℤ (pos 24)

abbrev pub cosine_exponent : ℤ
cosine_exponent = neg_ℤ (pos 60)

-- m * 10^q is below 2^36 in size
abbrev pub IsDistance : ℤ → ℤ → Type 0
IsDistance m q = unsigned_abs m * 10 ^ up q < 2 ^ 36 * 10 ^ down q

-- m * 10^q is at most 1 in size
abbrev pub IsCosine : ℤ → ℤ → Type 0
IsCosine m q = unsigned_abs m * 10 ^ up q ≤ 10 ^ down q
