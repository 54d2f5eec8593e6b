-- A position at one time is tight: its coefficients, the row of T and narrowing add little to its width.
use Rattle.std.proofs.Common.{◌≡◌, ℕ, zero, suc, ◌+◌, ◌*◌, ◌^◌, ◌<◌, ◌≤◌, max, arith, sym, ap, ◌∙◌, subst, false, ◌⊎◌, inl, inr, List, [], ◌∷◌, length, map, All, ℤ, pos, negsuc, ◌+ℤ◌, ◌-ℤ◌, ◌*ℤ◌, ◌≤ℤ◌, ◌<ℤ◌, unsigned_abs}
use Rattle.std.proofs.lemmas.Int.{ints, unsigned_abs-mul}
use Rattle.spec_numbers.proofs.Floor.{floor_div-one, ceil_div-one, ordered_quotients}
use Rattle.std.proofs.lemmas.Nat.{mul-le, pow_pos}
use Rattle.std.proofs.lemmas.Bool.{false≢true, cases_lt}
use Rattle.std.proofs.lemmas.List.Elements.{All-head, All-tail}
use Rattle.std.proofs.Math.Nat.{pow-suc}
use borrow.Author.Differences.{up, down}
use Rattle.spec_text.specs.declared.decimals.Decimal.{Decimal}
use Rattle.spec_intervals.specs.Interval.{interval, end_limit, fits_after, narrow_shift, narrow, narrow_by, settled, least4, greatest4, from_decimal, decimal_top, decimal_bottom}
use Rattle.spec_numbers.specs.Numbers.{floor_div, ceil_div}
use Rattle.spec_numbers.proofs.Ring.{v, k as lit, ◌⊕◌, ◌⊗◌, ring}
use Rattle.spec_numbers.proofs.Order.{lin, le-mul, le-mul_cancel}
use Rattle.spec_intervals.proofs.Narrow.{sizes-fit, narrow_shift-least, rescale_low}
use Rattle.spec_intervals.proofs.Decimals.{bottom_pos}
use Rattle.spec_chebyshev.specs.declared.ends.Ival62.{Ival62}
use Rattle.spec_chebyshev.specs.Rows.{t_row, argument_of, EndsWithin, IsArguments}
use Rattle.spec_chebyshev.proofs.RowEnds.{EndsWithin-t}
use Rattle.spec_chebyshev.proofs.Arguments.{IsArguments-argument, size_within}
use Rattle.spec_ephemeris.specs.Series.{Series, argument_at, scaled}
use Rattle.spec_ephemeris.specs.Ephemeris.{IsBodyNumber}
use Rattle.spec_motions.specs.Sums.{coefficient, sum_low, sum_high}
use Rattle.spec_motions.specs.Enclosures.{IsSeries, IsSpanOf, IsTight, spread, arguments, coefficients_of, position_over, position_interval}
use Rattle.spec_motions.proofs.HeldSums.{HoldsIn-coefficient}
use Rattle.spec_numbers.proofs.Sizes.{sum_size}
use Rattle.spec_motions.proofs.EndSizes.{least_size, greatest_size}
use Rattle.spec_motions.proofs.Widths.{quotients_gap, thin_quotients, product_width, ordered, thin_row}

abbrev D : ℕ
D = 10 ^ 140

-- ---- narrowing: two units of the coarser exponent, which are little beside the ends
module _ (lo hi : ℤ) (most : ℕ) (hl : unsigned_abs lo ≤ most) (hh : unsigned_abs hi ≤ most) where
  abbrev width_after : ℕ → ℤ
  width_after k = ceil_div hi (2 ^ k) -ℤ floor_div lo (2 ^ k)

  -- k halvings were needed
  needed : (j : ℕ) → fits_after j lo hi ≡ false → end_limit * 2 ^ j < most
  needed j f = by (cases_lt (end_limit * 2 ^ j) most)
    where
      by : (end_limit * 2 ^ j < most) ⊎ (most ≤ end_limit * 2 ^ j) → end_limit * 2 ^ j < most
      by (inl p) = p
      by (inr p) = absurd (false≢true (sym f ∙ sizes-fit j lo hi (omega (arith, hl, p)) (omega (arith, hh, p))))

  narrowed_width : (k : ℕ) → ((j : ℕ) → j < k → fits_after j lo hi ≡ false) → (width_after k *ℤ pos (2 ^ k * 2 ^ 60)) ≤ℤ ((hi -ℤ lo) *ℤ pos (2 ^ 60) +ℤ pos most)
  narrowed_width zero f =
      let a = floor_div-one lo in
      let b = ceil_div-one hi in
      let e : width_after 0 ≡ hi -ℤ lo = λ i. b i -ℤ a i in
      subst (λ (z : ℤ). (z *ℤ pos (1 * 2 ^ 60)) ≤ℤ ((hi -ℤ lo) *ℤ pos (2 ^ 60) +ℤ pos most)) (sym e) (omega (arith, ints))
  narrowed_width (suc j) f =
      let g = quotients_gap lo hi (2 ^ suc j) (pow_pos (suc j)) in
      let m = needed j (f j (omega arith)) in
      let t : 2 ^ suc j ≡ 2 ^ j * 2 = pow-suc 2 j in
      let w = le-mul (width_after (suc j) *ℤ pos (2 ^ suc j)) ((hi -ℤ lo) +ℤ pos (2 * 2 ^ suc j)) (pos (2 ^ 60)) (omega (arith, lin)) (omega (arith, lin)) in
      let e : width_after (suc j) *ℤ pos (2 ^ suc j) *ℤ pos (2 ^ 60) ≡ width_after (suc j) *ℤ pos (2 ^ suc j * 2 ^ 60) = ring (width_after (suc j) ∷ pos (2 ^ suc j) ∷ []) (v 0 ⊗ v 1 ⊗ lit (pos (2 ^ 60))) (v 0 ⊗ (v 1 ⊗ lit (pos (2 ^ 60)))) tt in
      let h : ((hi -ℤ lo) +ℤ pos (2 * 2 ^ suc j)) *ℤ pos (2 ^ 60) ≡ (hi -ℤ lo) *ℤ pos (2 ^ 60) +ℤ pos (2 * 2 ^ suc j * 2 ^ 60) = ring ((hi -ℤ lo) ∷ pos (2 * 2 ^ suc j) ∷ []) ((v 0 ⊕ v 1) ⊗ lit (pos (2 ^ 60))) (v 0 ⊗ lit (pos (2 ^ 60)) ⊕ v 1 ⊗ lit (pos (2 ^ 60))) tt in
      omega (arith, lin, w, e, h, m, t)

-- ---- the sum of the widths and sizes of the terms
abbrev size : Decimal → ℕ
size c = max (unsigned_abs (coefficient c).lo) (unsigned_abs (coefficient c).hi)

abbrev total_width : ℕ → List Decimal → ℕ
total_width k [] = 0
total_width k (c ∷ cs) = (size c * (2 * 3 ^ k) + 2 ^ 60 * 1) + total_width (suc k) cs

abbrev total_size : List Decimal → ℕ
total_size [] = 0
total_size (c ∷ cs) = size c * 2 ^ 60 + total_size cs

EndsWithin-size : (c : Decimal) → EndsWithin (size c) (coefficient c)
EndsWithin-size c = record { lo = size_within (coefficient c).lo (size c) (omega arith); hi = size_within (coefficient c).hi (size c) (omega arith) }

coefficient_thin : (c : Decimal) → (coefficient c).hi ≤ℤ ((coefficient c).lo +ℤ pos 1)
unfolding from_decimal
coefficient_thin c = thin_quotients (decimal_top c.mant c.exp (negsuc 23)) (decimal_bottom c.exp (negsuc 23)) (bottom_pos c.exp (negsuc 23))

coefficient_ordered : (c : Decimal) → (coefficient c).lo ≤ℤ (coefficient c).hi
unfolding from_decimal
coefficient_ordered c = ordered_quotients (decimal_top c.mant c.exp (negsuc 23)) (decimal_top c.mant c.exp (negsuc 23)) (decimal_bottom c.exp (negsuc 23)) (bottom_pos c.exp (negsuc 23)) (omega (arith, lin))

add_width : (a b c d : ℤ) (m n : ℕ) → a ≤ℤ (b +ℤ pos m) → c ≤ℤ (d +ℤ pos n) → (a +ℤ c) ≤ℤ ((b +ℤ d) +ℤ pos (m + n))
add_width a b c d m n h g = omega (arith, lin)

module _ (x : Ival62) (hx : IsArguments x) (thin : x.hi ≤ℤ (x.lo +ℤ pos 1)) where
  width_of : (k : ℕ) (cs : List Decimal) → sum_high (t_row x) k (map coefficient cs) ≤ℤ (sum_low (t_row x) k (map coefficient cs) +ℤ pos (total_width k cs))
  width_of k [] = omega (arith, lin)
  width_of k (c ∷ cs) =
      add_width (greatest4 (coefficient c).lo (coefficient c).hi (t_row x k).lo (t_row x k).hi) (least4 (coefficient c).lo (coefficient c).hi (t_row x k).lo (t_row x k).hi) (sum_high (t_row x) (suc k) (map coefficient cs)) (sum_low (t_row x) (suc k) (map coefficient cs)) (size c * (2 * 3 ^ k) + 2 ^ 60 * 1) (total_width (suc k) cs)
      (product_width (coefficient c) (t_row x k) (size c) (2 ^ 60) 1 (2 * 3 ^ k) (EndsWithin-size c) (EndsWithin-t x hx k) (coefficient_ordered c) (ordered x hx thin k) (let t = coefficient_thin c in omega (arith, lin)) (thin_row x hx thin k))
      (width_of (suc k) cs)

  low_size : (k : ℕ) (cs : List Decimal) → unsigned_abs (sum_low (t_row x) k (map coefficient cs)) ≤ total_size cs
  low_size k [] = omega arith
  low_size k (c ∷ cs) =
      sum_size (least4 (coefficient c).lo (coefficient c).hi (t_row x k).lo (t_row x k).hi) (sum_low (t_row x) (suc k) (map coefficient cs)) (size c * 2 ^ 60) (total_size cs) (least_size (coefficient c) (t_row x k) (size c) (2 ^ 60) (EndsWithin-size c) (EndsWithin-t x hx k)) (low_size (suc k) cs)

  high_size : (k : ℕ) (cs : List Decimal) → unsigned_abs (sum_high (t_row x) k (map coefficient cs)) ≤ total_size cs
  high_size k [] = omega arith
  high_size k (c ∷ cs) =
      sum_size (greatest4 (coefficient c).lo (coefficient c).hi (t_row x k).lo (t_row x k).hi) (sum_high (t_row x) (suc k) (map coefficient cs)) (size c * 2 ^ 60) (total_size cs) (greatest_size (coefficient c) (t_row x k) (size c) (2 ^ 60) (EndsWithin-size c) (EndsWithin-t x hx k)) (high_size (suc k) cs)

-- ---- beside the exact coefficients
max_times : (a b d m : ℕ) → a * d ≤ m → b * d ≤ m → max a b * d ≤ m
max_times a b d m h g = by (cases_lt a b)
  where
    by : (a < b) ⊎ (b ≤ a) → max a b * d ≤ m
    by (inl p) = let e : max a b ≡ b = omega arith in rw e g
    by (inr p) = let e : max a b ≡ a = omega arith in rw e h

end_size : (z d : ℕ) (e : ℤ) (m : ℕ) → unsigned_abs (e *ℤ pos d) ≤ m → unsigned_abs e * d ≤ m
end_size z d e m h = rw (← unsigned_abs-mul e (pos d)) h

near_low : (l h y : ℤ) (d : ℕ) → l ≤ℤ y → y ≤ℤ h → h ≤ℤ (l +ℤ pos d) → unsigned_abs l ≤ unsigned_abs y + d
near_low l h y d p q r = omega (arith, lin)

near_high : (l h y : ℤ) (d : ℕ) → l ≤ℤ y → y ≤ℤ h → h ≤ℤ (l +ℤ pos d) → unsigned_abs h ≤ unsigned_abs y + d
near_high l h y d p q r = omega (arith, lin)

one_more : (l h : ℤ) (d : ℕ) → h ≤ℤ (l +ℤ pos 1) → (h *ℤ pos d) ≤ℤ (l *ℤ pos d +ℤ pos d)
one_more l h d t =
    let a = le-mul h (l +ℤ pos 1) (pos d) (omega (arith, lin)) t in
    let e : (l +ℤ pos 1) *ℤ pos d ≡ l *ℤ pos d +ℤ pos d = ring (l ∷ pos d ∷ []) ((v 0 ⊕ lit (pos 1)) ⊗ v 1) (v 0 ⊗ v 1 ⊕ v 1) tt in
    rw e at a

size_near : (c : Decimal) → IsBodyNumber c → size c * D ≤ unsigned_abs (scaled c) * 2 ^ 24 + D
size_near c is =
    let h = HoldsIn-coefficient c is.in_units in
    let t = one_more (coefficient c).lo (coefficient c).hi D (coefficient_thin c) in
    let e : unsigned_abs (scaled c *ℤ pos (2 ^ 24)) ≡ unsigned_abs (scaled c) * 2 ^ 24 = unsigned_abs-mul (scaled c) (pos (2 ^ 24)) in
    let a = near_low ((coefficient c).lo *ℤ pos D) ((coefficient c).hi *ℤ pos D) (scaled c *ℤ pos (2 ^ 24)) D h.low h.high t in
    let b = near_high ((coefficient c).lo *ℤ pos D) ((coefficient c).hi *ℤ pos D) (scaled c *ℤ pos (2 ^ 24)) D h.low h.high t in
    max_times (unsigned_abs (coefficient c).lo) (unsigned_abs (coefficient c).hi) D (unsigned_abs (scaled c) * 2 ^ 24 + D) (end_size 0 D (coefficient c).lo _ (rw e at a)) (end_size 0 D (coefficient c).hi _ (rw e at b))

-- over plain numbers: size m, coefficient s, 3^k = p, and 10^140 = d
term : (m s p d : ℕ) → m * d ≤ s * 2 ^ 24 + d → 1 ≤ p → p * 3 ≤ 2 ^ 60 → ((m * (2 * p) + 2 ^ 60 * 1) * 2 ^ 60 + m * 2 ^ 60) * d ≤ (2 ^ 25 * (s * (p * 3)) + d * 2 ^ 61) * 2 ^ 60
term m s p d h p1 p3 =
    let a : m * d * (2 * p + 1) ≤ (s * 2 ^ 24 + d) * (p * 3) = mul-le (m * d) (2 * p + 1) (s * 2 ^ 24 + d) (p * 3) h (omega arith) in
    let b : d * (p * 3) ≤ d * 2 ^ 60 = mul-le d (p * 3) d (2 ^ 60) (omega arith) p3 in
    let e : ((m * (2 * p) + 2 ^ 60 * 1) * 2 ^ 60 + m * 2 ^ 60) * d ≡ m * d * (2 * p + 1) * 2 ^ 60 + d * 2 ^ 120 =
    ap unsigned_abs (ring (pos m ∷ pos p ∷ pos d ∷ []) (((v 0 ⊗ (lit (pos 2) ⊗ v 1) ⊕ lit (pos (2 ^ 60))) ⊗ lit (pos (2 ^ 60)) ⊕ v 0 ⊗ lit (pos (2 ^ 60))) ⊗ v 2) (v 0 ⊗ v 2 ⊗ (lit (pos 2) ⊗ v 1 ⊕ lit (pos 1)) ⊗ lit (pos (2 ^ 60)) ⊕ v 2 ⊗ lit (pos (2 ^ 120))) tt) in
    let f : (s * 2 ^ 24 + d) * (p * 3) ≡ s * (p * 3) * 2 ^ 24 + d * (p * 3) =
    ap unsigned_abs (ring (pos s ∷ pos p ∷ pos d ∷ []) ((v 0 ⊗ lit (pos (2 ^ 24)) ⊕ v 2) ⊗ (v 1 ⊗ lit (pos 3))) (v 0 ⊗ (v 1 ⊗ lit (pos 3)) ⊗ lit (pos (2 ^ 24)) ⊕ v 2 ⊗ (v 1 ⊗ lit (pos 3))) tt) in
    omega (arith, a, b, e, f)

power_grows : (j k : ℕ) → j ≤ k → 3 ^ j ≤ 3 ^ k
power_grows j zero h = let e : j ≡ 0 = omega (arith, h) in rw e (omega arith)
power_grows j (suc k) h = by (power_grows j k) (cases_lt k j)
  where
    by : (j ≤ k → 3 ^ j ≤ 3 ^ k) → (k < j) ⊎ (j ≤ k) → 3 ^ j ≤ 3 ^ suc k
    by ih (inl p) = let e : j ≡ suc k = omega arith in rw e (omega arith)
    by ih (inr p) = let q = ih p in let t : 3 ^ suc k ≡ 3 ^ k * 3 = pow-suc 3 k in omega (arith, q, t)

apart : (a b c e d : ℕ) → ((a + b) * 2 ^ 60 + (c + e)) * d ≡ (a * 2 ^ 60 + c) * d + (b * 2 ^ 60 + e) * d
apart a b c e d =
    ap unsigned_abs (ring (pos a ∷ pos b ∷ pos c ∷ pos e ∷ pos d ∷ []) (((v 0 ⊕ v 1) ⊗ lit (pos (2 ^ 60)) ⊕ (v 2 ⊕ v 3)) ⊗ v 4) ((v 0 ⊗ lit (pos (2 ^ 60)) ⊕ v 2) ⊗ v 4 ⊕ (v 1 ⊗ lit (pos (2 ^ 60)) ⊕ v 3) ⊗ v 4) tt)

together : (a b n d : ℕ) → (2 ^ 25 * (a + b) + (n + 1) * (d * 2 ^ 61)) * 2 ^ 60 ≡ (2 ^ 25 * a + d * 2 ^ 61) * 2 ^ 60 + (2 ^ 25 * b + n * (d * 2 ^ 61)) * 2 ^ 60
together a b n d =
    ap unsigned_abs (ring (pos a ∷ pos b ∷ pos n ∷ pos d ∷ []) ((lit (pos (2 ^ 25)) ⊗ (v 0 ⊕ v 1) ⊕ (v 2 ⊕ lit (pos 1)) ⊗ (v 3 ⊗ lit (pos (2 ^ 61)))) ⊗ lit (pos (2 ^ 60))) ((lit (pos (2 ^ 25)) ⊗ v 0 ⊕ v 3 ⊗ lit (pos (2 ^ 61))) ⊗ lit (pos (2 ^ 60)) ⊕ (lit (pos (2 ^ 25)) ⊗ v 1 ⊕ v 2 ⊗ (v 3 ⊗ lit (pos (2 ^ 61)))) ⊗ lit (pos (2 ^ 60))) tt)

sum_le : (a b c d x y : ℕ) → x ≡ a + b → y ≡ c + d → a ≤ c → b ≤ d → x ≤ y
sum_le a b c d x y e f h g = omega (arith, e, f, h, g)

power_positive : (k : ℕ) → 1 ≤ 3 ^ k
power_positive k = power_grows 0 k (omega arith)

total : (k : ℕ) (cs : List Decimal) → k + length cs ≤ 32 → All IsBodyNumber cs → (total_width k cs * 2 ^ 60 + total_size cs) * D ≤ (2 ^ 25 * spread k cs + length cs * (D * 2 ^ 61)) * 2 ^ 60
total k [] few h = omega arith
total k (c ∷ cs) few h =
    let s = unsigned_abs (scaled c) in
    let q : 3 ^ suc k ≡ 3 ^ k * 3 = pow-suc 3 k in
    let most : 3 ^ suc k ≤ 3 ^ 32 = power_grows (suc k) 32 (omega (arith, few)) in
    let t = term (size c) s (3 ^ k) D (size_near c (All-head IsBodyNumber c cs h)) (power_positive k) (omega (arith, q, most)) in
    let ih = total (suc k) cs (omega (arith, few)) (All-tail IsBodyNumber c cs h) in
    sum_le ((((size c * (2 * 3 ^ k) + 2 ^ 60 * 1) * 2 ^ 60) + size c * 2 ^ 60) * D) ((total_width (suc k) cs * 2 ^ 60 + total_size cs) * D) ((2 ^ 25 * (s * (3 ^ k * 3)) + D * 2 ^ 61) * 2 ^ 60) ((2 ^ 25 * spread (suc k) cs + length cs * (D * 2 ^ 61)) * 2 ^ 60) _ _
    (apart (size c * (2 * 3 ^ k) + 2 ^ 60 * 1) (total_width (suc k) cs) (size c * 2 ^ 60) (total_size cs) D)
    (ap (λ (w : ℕ). (2 ^ 25 * (s * w + spread (suc k) cs) + suc (length cs) * (D * 2 ^ 61)) * 2 ^ 60) q ∙ (ap (λ (n : ℕ). (2 ^ 25 * (s * (3 ^ k * 3) + spread (suc k) cs) + n * (D * 2 ^ 61)) * 2 ^ 60) (next (length cs)) ∙ together (s * (3 ^ k * 3)) (spread (suc k) cs) (length cs) D))
    t ih
  where
    next : (n : ℕ) → suc n ≡ n + 1
    next n = omega arith

-- ---- the whole
IsTight-settled : (cs : List Decimal) (lo hi s : ℤ) → IsTight cs (interval lo hi s) → IsTight cs (settled lo hi s)
unfolding settled
IsTight-settled cs (pos zero) (pos zero) s h = omega (arith, ints)
IsTight-settled cs (pos zero) (pos (suc n)) s h = h
IsTight-settled cs (pos zero) (negsuc n) s h = h
IsTight-settled cs (pos (suc n)) hi s h = h
IsTight-settled cs (negsuc n) hi s h = h

-- a width z at the exponent k - 84, with S the spread and n coefficients
module _ (z : ℤ) (k S n W d : ℕ) where
  scaled_down : (z *ℤ pos (2 ^ k * 2 ^ 60)) ≤ℤ pos W → W * d ≤ (2 ^ 25 * S + n * (d * 2 ^ 61)) * 2 ^ 60 → (z *ℤ pos (2 ^ k * (d * 2 ^ 59))) ≤ℤ (pos (S + (n + 2) * (2 ^ 36 * d)) *ℤ pos (2 ^ 84))
  scaled_down h g =
      let a = le-mul (z *ℤ pos (2 ^ k * 2 ^ 60)) (pos W) (pos d) (omega (arith, lin)) h in
      let e : z *ℤ pos (2 ^ k * (d * 2 ^ 59)) *ℤ pos 2 ≡ z *ℤ pos (2 ^ k * 2 ^ 60) *ℤ pos d = ring (z ∷ pos (2 ^ k) ∷ pos d ∷ []) (v 0 ⊗ (v 1 ⊗ (v 2 ⊗ lit (pos (2 ^ 59)))) ⊗ lit (pos 2)) (v 0 ⊗ (v 1 ⊗ lit (pos (2 ^ 60))) ⊗ v 2) tt in
      let r : pos ((2 ^ 25 * S + n * (d * 2 ^ 61)) * 2 ^ 60) +ℤ pos (d * 2 ^ 122) ≡ pos (S + (n + 2) * (2 ^ 36 * d)) *ℤ pos (2 ^ 84) *ℤ pos 2 = ring (pos S ∷ pos n ∷ pos d ∷ []) ((lit (pos (2 ^ 25)) ⊗ v 0 ⊕ v 1 ⊗ (v 2 ⊗ lit (pos (2 ^ 61)))) ⊗ lit (pos (2 ^ 60)) ⊕ v 2 ⊗ lit (pos (2 ^ 122))) ((v 0 ⊕ (v 1 ⊕ lit (pos 2)) ⊗ (lit (pos (2 ^ 36)) ⊗ v 2)) ⊗ lit (pos (2 ^ 84)) ⊗ lit (pos 2)) tt in
      le-mul_cancel (z *ℤ pos (2 ^ k * (d * 2 ^ 59))) (pos (S + (n + 2) * (2 ^ 36 * d)) *ℤ pos (2 ^ 84)) 2 (omega arith) (omega (arith, lin, a, e, r, g))

IsTight-narrow : (cs : List Decimal) (lo hi : ℤ) (W most : ℕ) → hi ≤ℤ (lo +ℤ pos W) → unsigned_abs lo ≤ most → unsigned_abs hi ≤ most → (W * 2 ^ 60 + most) * D ≤ (2 ^ 25 * spread 0 cs + length cs * (D * 2 ^ 61)) * 2 ^ 60 → IsTight cs (narrow lo hi (negsuc 83))
unfolding narrow narrow_by
IsTight-narrow cs lo hi W most w hl hh g =
    let k = narrow_shift lo hi in
    let s = negsuc 83 +ℤ pos (narrow_shift lo hi) in
    let f = floor_div lo (2 ^ k) in
    let c = ceil_div hi (2 ^ k) in
    let n = narrowed_width lo hi most hl hh k (narrow_shift-least lo hi) in
    let b : ((c -ℤ f) *ℤ pos (2 ^ k * 2 ^ 60)) ≤ℤ pos (W * 2 ^ 60 + most) = bounded (hi -ℤ lo) ((c -ℤ f) *ℤ pos (2 ^ k * 2 ^ 60)) n (omega (arith, lin)) in
    let t = scaled_down (c -ℤ f) k (spread 0 cs) (length cs) (W * 2 ^ 60 + most) D b g in
    IsTight-settled cs f c s (rescale_low (c -ℤ f) (pos (spread 0 cs + (length cs + 2) * (2 ^ 36 * D))) (D * 2 ^ 59) k 84 (up s) (down s) (omega (arith, lin)) t)
  where
    bounded : (x y : ℤ) → y ≤ℤ (x *ℤ pos (2 ^ 60) +ℤ pos most) → x ≤ℤ pos W → y ≤ℤ pos (W * 2 ^ 60 + most)
    bounded x y n h = let a = le-mul x (pos W) (pos (2 ^ 60)) (omega (arith, lin)) h in omega (arith, lin)

thin_argument : (s : Series) (a : ℤ) → 1 ≤ s.duration → (arguments s a a).hi ≤ℤ ((arguments s a a).lo +ℤ pos 1)
unfolding argument_of
thin_argument s a h = thin_quotients (argument_at s a *ℤ pos (2 ^ 60)) s.duration h

pub IsTight-position : (s : Series) (a : ℤ) → IsSeries s → IsSpanOf s a a → IsTight s.coefficients (position_interval s a a)
unfolding position_over
IsTight-position s a is span =
    let l0 : pos 0 <ℤ pos s.duration = let p = is.long in omega (arith, ints) in
    let from = span.from in
    let to = span.to in
    let hx = IsArguments-argument (argument_at s a) (argument_at s a) (pos s.duration) l0 (omega (arith, ints)) (omega (arith, ints)) (omega (arith, ints)) in
    let x = arguments s a a in
    let cs = s.coefficients in
    IsTight-narrow cs (sum_low (t_row x) 0 (coefficients_of s)) (sum_high (t_row x) 0 (coefficients_of s)) (total_width 0 cs) (total_size cs)
    (width_of x hx (thin_argument s a is.long) 0 cs) (low_size x hx (thin_argument s a is.long) 0 cs) (high_size x hx (thin_argument s a is.long) 0 cs) (total 0 cs (let p = is.few in omega (arith, p)) is.bodies)
