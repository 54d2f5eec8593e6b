-- How near sums and differences are: what lies past 2^60 times the finer unit is rounded, and the sum is narrowed.
use Rattle.std.proofs.Common.{◌≡◌, ◌⊎◌, inl, inr, ℕ, zero, suc, ◌+◌, ◌*◌, ◌^◌, ◌<◌, ◌≤◌, arith, refl, sym, ap, subst, ◌∙◌, [], ◌∷◌, ℤ, pos, negsuc, neg_ℤ, ◌+ℤ◌, ◌*ℤ◌, ◌≤ℤ◌, ◌<ℤ◌, Bool, true, false, ◌&&◌, unsigned_abs}
use Rattle.std.specs.Prelude.{if◌then◌else◌}
use Rattle.std.specs.Int.{int_gap}
use Rattle.std.proofs.lemmas.Int.{ints}
use Rattle.std.proofs.lemmas.Bool.{cases_lt}
use Rattle.std.proofs.lemmas.Nat.{pow-add, pow_pos, mul-le}
use Rattle.std.proofs.Math.IntN.{zero-*ℤ}
use borrow.Author.Differences.{up, down}
use lib.Signed.{le_z}
use Rattle.spec_numbers.specs.Numbers.{floor_div, ceil_div}
use Rattle.spec_numbers.proofs.Ring.{Poly, v, k as lit, ◌⊕◌, ◌⊖◌, ◌⊗◌, minus, ring}
use Rattle.spec_numbers.proofs.Order.{lin, le-mul}
use Rattle.spec_numbers.proofs.Floor.{floor_div-le, floor_div-lt, ceil_div-ge, ceil_div-lt}
use Rattle.spec_numbers.proofs.Sizes.{scaled_size, sum_size}
use Rattle.spec_intervals.specs.Interval.{Interval, zero_end, is_zero, lift, surplus, sum_up, sum, negated, difference}
use Rattle.spec_intervals.specs.Fraction.{Fraction, fraction, fraction_add, fraction_sub}
use Rattle.spec_intervals.proofs.Narrow.{zero_ends}
use Rattle.spec_intervals.proofs.Sums.{gap_is, fraction_add-comm}
use Rattle.spec_models.specs.Ends.{in_units, low, high, greatest_end, size, slight, Under, Over}
use Rattle.spec_models.proofs.Near.{IsRatio, IsAllowed, raised_powers, rounded_under, rounded_over}
use Rattle.spec_models.proofs.NarrowedRoundings.{greatest, IsLeftDown, IsLeftUp, IsKeptDown, IsKeptUp, slight_allowed, narrow_under, narrow_over}
use Rattle.spec_models.proofs.Scaling.{greater_times}

-- ---- a number t of at most m in size is rounded to q, in units of d, and q to w
-- the size of q
sum_rounded : (q t : ℤ) (d m : ℕ) → unsigned_abs t ≤ m → t <ℤ (q *ℤ pos d +ℤ pos d) → (q *ℤ pos d) <ℤ (t +ℤ pos d)
    → unsigned_abs q * d < m + d
sum_rounded q t d m p f g = let e = scaled_size q d in rw (← e) (omega (arith, lin))

abbrev eight : ℤ → ℤ
eight z = z +ℤ z +ℤ (z +ℤ z) +ℤ (z +ℤ z +ℤ (z +ℤ z))

-- p is less than a unit past a, and a no more than an eighth of the size past b
eighth : (a b p : ℤ) (d m l : ℕ) → l < m + d → (d ≡ 1) ⊎ (2 ^ 60 * d ≤ m) → eight a ≤ℤ (eight b +ℤ pos l)
    → (p +ℤ pos (2 ^ 58)) ≤ℤ (a +ℤ pos (d * 2 ^ 58)) → p ≤ℤ (b +ℤ pos m)
eighth a b p d m l s (inl e) h i = omega (arith, lin)
eighth a b p d m l s (inr e) h i = omega (arith, lin)

-- the same the other way round
eighth_up : (a b p : ℤ) (d m l : ℕ) → l < m + d → (d ≡ 1) ⊎ (2 ^ 60 * d ≤ m) → eight p ≤ℤ (eight a +ℤ pos l)
    → (a +ℤ pos (2 ^ 58)) ≤ℤ (b +ℤ pos (d * 2 ^ 58)) → p ≤ℤ (b +ℤ pos m)
eighth_up a b p d m l s (inl e) h i = omega (arith, lin)
eighth_up a b p d m l s (inr e) h i = omega (arith, lin)

module _ (t q w : ℤ) (d m n : ℕ) (sizes : n * d < m + d) (unit : (d ≡ 1) ⊎ (2 ^ 60 * d ≤ m)) where
  together : (z : ℤ) → z *ℤ pos (d * 2 ^ 58) ≡ z *ℤ pos (2 ^ 58) *ℤ pos d
  together z = ring (z ∷ pos d ∷ []) (v 0 ⊗ (v 1 ⊗ lit (pos (2 ^ 58)))) (v 0 ⊗ lit (pos (2 ^ 58)) ⊗ v 1) tt

  beside : (z : ℤ) → z *ℤ pos d *ℤ pos (2 ^ 58) ≡ z *ℤ pos (2 ^ 58) *ℤ pos d
  beside z = ring (z ∷ pos d ∷ []) (v 0 ⊗ v 1 ⊗ lit (pos (2 ^ 58))) (v 0 ⊗ lit (pos (2 ^ 58)) ⊗ v 1) tt

  -- a is less than a unit past b
  unit_apart : (a b : ℤ) → a <ℤ (b +ℤ pos d)
      → (a *ℤ pos (2 ^ 58) +ℤ pos (2 ^ 58)) ≤ℤ (b *ℤ pos (2 ^ 58) +ℤ pos (d * 2 ^ 58))
  unit_apart a b h =
      let f = le-mul (a +ℤ pos 1) (b +ℤ pos d) (pos (2 ^ 58)) (omega (arith, lin)) (omega (arith, lin)) in
      let g = ring (b ∷ pos d ∷ []) ((v 0 ⊕ v 1) ⊗ lit (pos (2 ^ 58)))
      (v 0 ⊗ lit (pos (2 ^ 58)) ⊕ v 1 ⊗ lit (pos (2 ^ 58))) tt in
      let i = ring (a ∷ []) ((v 0 ⊕ lit (pos 1)) ⊗ lit (pos (2 ^ 58))) (v 0 ⊗ lit (pos (2 ^ 58)) ⊕ lit (pos (2 ^ 58))) tt in
      omega (arith, lin)

  ordered_apart : (a b : ℤ) → a ≤ℤ b → (a *ℤ pos (2 ^ 58) *ℤ pos d) ≤ℤ (b *ℤ pos (2 ^ 58) *ℤ pos d)
  ordered_apart a b h =
      le-mul (a *ℤ pos (2 ^ 58)) (b *ℤ pos (2 ^ 58)) (pos d) (omega (arith, lin))
      (le-mul a b (pos (2 ^ 58)) (omega (arith, lin)) h)

  eight_units : (z : ℤ) → z *ℤ pos (2 ^ 61) *ℤ pos d ≡ eight (z *ℤ pos (2 ^ 58) *ℤ pos d)
  eight_units z =
      let four = λ (p : Poly). p ⊕ p ⊕ (p ⊕ p) in
      let p = v 0 ⊗ lit (pos (2 ^ 58)) ⊗ v 1 in
      ring (z ∷ pos d ∷ []) (v 0 ⊗ lit (pos (2 ^ 61)) ⊗ v 1) (four p ⊕ four p) tt

  narrowed_apart : (a b : ℤ) → (a *ℤ pos (2 ^ 61)) ≤ℤ (b *ℤ pos (2 ^ 61) +ℤ pos n)
      → eight (a *ℤ pos (2 ^ 58) *ℤ pos d) ≤ℤ (eight (b *ℤ pos (2 ^ 58) *ℤ pos d) +ℤ pos (n * d))
  narrowed_apart a b h =
      let f = le-mul (a *ℤ pos (2 ^ 61)) (b *ℤ pos (2 ^ 61) +ℤ pos n) (pos d) (omega (arith, lin)) h in
      let g = ring (b ∷ pos n ∷ pos d ∷ []) ((v 0 ⊗ lit (pos (2 ^ 61)) ⊕ v 1) ⊗ v 2)
      (v 0 ⊗ lit (pos (2 ^ 61)) ⊗ v 2 ⊕ v 1 ⊗ v 2) tt in
      let j = eight_units a in
      let l = eight_units b in
      omega (arith, lin)

  kept_down : (q *ℤ pos d) ≤ℤ t → t <ℤ (q *ℤ pos d +ℤ pos d) → IsLeftDown w q n
      → IsKeptDown w (t *ℤ pos (2 ^ 58)) (pos m) (d * 2 ^ 58)
  kept_down h i left =
      let a = ordered_apart w q left.below in
      let c = le-mul (q *ℤ pos d) t (pos (2 ^ 58)) (omega (arith, lin)) h in
      let f = unit_apart t (q *ℤ pos d) i in
      let e = beside q in
      let g = together w in
      let l = eighth (q *ℤ pos (2 ^ 58) *ℤ pos d) (w *ℤ pos (2 ^ 58) *ℤ pos d) (t *ℤ pos (2 ^ 58)) d m (n * d) sizes unit
      (narrowed_apart q w left.near) (omega (arith, lin)) in
      record { below = omega (arith, lin); near = omega (arith, lin) }

  kept_up : t ≤ℤ (q *ℤ pos d) → (q *ℤ pos d) <ℤ (t +ℤ pos d) → IsLeftUp w q n
      → IsKeptUp w (t *ℤ pos (2 ^ 58)) (pos m) (d * 2 ^ 58)
  kept_up h i left =
      let a = ordered_apart q w left.above in
      let c = le-mul t (q *ℤ pos d) (pos (2 ^ 58)) (omega (arith, lin)) h in
      let f = unit_apart (q *ℤ pos d) t i in
      let e = beside q in
      let g = together w in
      let l = eighth_up (q *ℤ pos (2 ^ 58) *ℤ pos d) (t *ℤ pos (2 ^ 58)) (w *ℤ pos (2 ^ 58) *ℤ pos d) d m (n * d) sizes unit
      (narrowed_apart w q left.near) (omega (arith, lin)) in
      record { above = omega (arith, lin); near = omega (arith, lin) }

-- ---- the ends at one exponent
-- numbers of units, at a distance of exponents
sum_is_ratio : (p q s t : ℤ) (gap b : ℕ) → t ≡ s +ℤ pos gap
    → IsRatio (fraction_add (in_units p s) (in_units q t)) ((p +ℤ q *ℤ pos (2 ^ gap)) *ℤ pos b) s b
sum_is_ratio p q s t gap b h =
    ring (p ∷ q ∷ pos (2 ^ up s) ∷ pos (2 ^ down s) ∷ pos (2 ^ up t) ∷ pos (2 ^ down t) ∷ pos b ∷ [])
    ((v 0 ⊗ v 2 ⊗ v 5 ⊕ v 1 ⊗ v 4 ⊗ v 3) ⊗ (v 3 ⊗ v 6))
    (v 0 ⊗ v 2 ⊗ v 5 ⊗ (v 3 ⊗ v 6) ⊕ v 1 ⊗ v 3 ⊗ v 6 ⊗ (v 4 ⊗ v 3)) tt ∙
    (ap (λ n. p *ℤ pos (2 ^ up s) *ℤ pos (2 ^ down t) *ℤ pos (2 ^ down s * b) +ℤ q *ℤ pos (2 ^ down s) *ℤ pos b *ℤ pos n)
    (raised_powers s t gap h) ∙
    ring (p ∷ q ∷ pos (2 ^ up s) ∷ pos (2 ^ down s) ∷ pos (2 ^ gap) ∷ pos (2 ^ down t) ∷ pos b ∷ [])
    (v 0 ⊗ v 2 ⊗ v 5 ⊗ (v 3 ⊗ v 6) ⊕ v 1 ⊗ v 3 ⊗ v 6 ⊗ (v 2 ⊗ v 4 ⊗ v 5))
    ((v 0 ⊕ v 1 ⊗ v 4) ⊗ v 6 ⊗ (v 2 ⊗ (v 3 ⊗ v 5))) tt)

-- y is brought down by the lift, and x up by the surplus
abbrev gap_of : Interval → Interval → ℕ
gap_of x y = int_gap x.s y.s

gap_powers : (x y : Interval) → 2 ^ gap_of x y ≡ 2 ^ surplus x y * 2 ^ lift x y
gap_powers x y =
    let e : gap_of x y ≡ surplus x y + lift x y = omega arith in
    ap (λ n. 2 ^ n) e ∙ pow-add 2 (surplus x y) (lift x y)

-- both sizes, in units of x
abbrev both_sizes : Interval → Interval → ℕ
both_sizes x y = greatest_end x + greatest_end y * 2 ^ gap_of x y

not_zero : (lo hi : ℤ) → (zero_end lo && zero_end hi) ≡ false → 1 ≤ greatest lo hi
not_zero (pos zero) (pos zero) h = cc
not_zero (pos zero) (pos (suc n)) h = omega arith
not_zero (pos zero) (negsuc n) h = omega arith
not_zero (pos (suc n)) hi h = omega arith
not_zero (negsuc n) hi h = omega arith

-- what is rounded is below what the other number is made of
surplus_is_small : (x y : Interval) → is_zero y ≡ false → (2 ^ surplus x y ≡ 1) ⊎ (2 ^ 60 * 2 ^ surplus x y ≤ both_sizes x y)
surplus_is_small x y z = by (cases_lt 60 (gap_of x y))
  where
    by : (60 < gap_of x y) ⊎ (gap_of x y ≤ 60) → (2 ^ surplus x y ≡ 1) ⊎ (2 ^ 60 * 2 ^ surplus x y ≤ both_sizes x y)
    by (inl h) =
        let one = not_zero y.lo y.hi z in
        let e : lift x y ≡ 60 = omega arith in
        let f : 2 ^ gap_of x y ≡ 2 ^ surplus x y * 2 ^ 60 = gap_powers x y ∙ ap (λ n. 2 ^ surplus x y * 2 ^ n) e in
        let g = mul-le 1 (2 ^ gap_of x y) (greatest_end y) (2 ^ gap_of x y) one (omega arith) in
        inr (omega arith)
    by (inr h) = let e : surplus x y ≡ 0 = omega arith in inl (ap (λ n. 2 ^ n) e)

-- an end of the sum, before it is narrowed
added_end : (x y : Interval) (a c : ℤ)
    → (a +ℤ c *ℤ pos (2 ^ lift x y)) *ℤ pos (2 ^ surplus x y) ≡ a *ℤ pos (2 ^ surplus x y) +ℤ c *ℤ pos (2 ^ gap_of x y)
added_end x y a c =
    ring (a ∷ c ∷ pos (2 ^ lift x y) ∷ pos (2 ^ surplus x y) ∷ []) ((v 0 ⊕ v 1 ⊗ v 2) ⊗ v 3)
    (v 0 ⊗ v 3 ⊕ v 1 ⊗ (v 3 ⊗ v 2)) tt ∙
    ap (λ n. a *ℤ pos (2 ^ surplus x y) +ℤ c *ℤ pos n) (sym (gap_powers x y))

abbrev exact_end : Interval → Interval → ℤ → ℤ → ℤ
exact_end x y a c = a +ℤ c *ℤ pos (2 ^ gap_of x y)

exact_size : (x y : Interval) (a c : ℤ) → unsigned_abs a ≤ greatest_end x → unsigned_abs c ≤ greatest_end y
    → unsigned_abs (exact_end x y a c) ≤ both_sizes x y
exact_size x y a c p q =
    let e = scaled_size c (2 ^ gap_of x y) in
    let f = mul-le (unsigned_abs c) (2 ^ gap_of x y) (greatest_end y) (2 ^ gap_of x y) q (omega arith) in
    sum_size a (c *ℤ pos (2 ^ gap_of x y)) (greatest_end x) (greatest_end y * 2 ^ gap_of x y) p (rw e f)

-- ---- x in the finer unit
module _ (x y : Interval) (order : x.s ≤ℤ y.s) (present : is_zero y ≡ false) where
  abbrev low_end : ℤ
  low_end = floor_div x.lo (2 ^ surplus x y) +ℤ y.lo *ℤ pos (2 ^ lift x y)

  abbrev high_end : ℤ
  high_end = ceil_div x.hi (2 ^ surplus x y) +ℤ y.hi *ℤ pos (2 ^ lift x y)

  abbrev unit : ℕ
  unit = 2 ^ surplus x y

  low_below : (low_end *ℤ pos unit) ≤ℤ exact_end x y x.lo y.lo
  low_below =
      let e = added_end x y (floor_div x.lo unit) y.lo in
      let f = floor_div-le x.lo unit (pow_pos (surplus x y)) in
      omega (arith, lin)

  low_near : exact_end x y x.lo y.lo <ℤ (low_end *ℤ pos unit +ℤ pos unit)
  low_near =
      let e = added_end x y (floor_div x.lo unit) y.lo in
      let f = floor_div-lt x.lo unit (pow_pos (surplus x y)) in
      omega (arith, lin)

  high_above : exact_end x y x.hi y.hi ≤ℤ (high_end *ℤ pos unit)
  high_above =
      let e = added_end x y (ceil_div x.hi unit) y.hi in
      let f = ceil_div-ge x.hi unit (pow_pos (surplus x y)) in
      omega (arith, lin)

  high_near : (high_end *ℤ pos unit) <ℤ (exact_end x y x.hi y.hi +ℤ pos unit)
  high_near =
      let e = added_end x y (ceil_div x.hi unit) y.hi in
      let f = ceil_div-lt x.hi unit (pow_pos (surplus x y)) in
      omega (arith, lin)

  sizes_added : greatest low_end high_end * unit < both_sizes x y + unit
  sizes_added =
      let a = sum_rounded low_end (exact_end x y x.lo y.lo) unit (both_sizes x y)
      (exact_size x y x.lo y.lo (omega arith) (omega arith))
      low_near (omega (arith, lin, low_below, pow_pos (surplus x y))) in
      let b = sum_rounded high_end (exact_end x y x.hi y.hi) unit (both_sizes x y)
      (exact_size x y x.hi y.hi (omega arith) (omega arith))
      (omega (arith, lin, high_above, pow_pos (surplus x y))) high_near in
      greater_times (λ n. n < both_sizes x y + unit) _ _ unit a b

  ratio : (p q : ℤ) → IsRatio (fraction_add (in_units p x.s) (in_units q y.s)) (exact_end x y p q *ℤ pos (2 ^ 58)) x.s (2 ^ 58)
  ratio p q = sum_is_ratio p q x.s y.s (gap_of x y) (2 ^ 58) (gap_is x.s y.s order)

  size_allowed : IsAllowed (slight (fraction_add (size x) (size y))) (pos (both_sizes x y)) x.s (2 ^ 58)
  size_allowed =
      slight_allowed (fraction_add (size x) (size y)) (pos (both_sizes x y)) x.s
      (ratio (pos (greatest_end x)) (pos (greatest_end y)))

  keeps_low : (w : ℤ) → IsLeftDown w low_end (greatest low_end high_end)
      → IsKeptDown w (exact_end x y x.lo y.lo *ℤ pos (2 ^ 58)) (pos (both_sizes x y)) (unit * 2 ^ 58)
  keeps_low w left =
      kept_down (exact_end x y x.lo y.lo) low_end w unit (both_sizes x y) (greatest low_end high_end) sizes_added
      (surplus_is_small x y present) low_below low_near left

  keeps_high : (w : ℤ) → IsLeftUp w high_end (greatest low_end high_end)
      → IsKeptUp w (exact_end x y x.hi y.hi *ℤ pos (2 ^ 58)) (pos (both_sizes x y)) (unit * 2 ^ 58)
  keeps_high w left =
      kept_up (exact_end x y x.hi y.hi) high_end w unit (both_sizes x y) (greatest low_end high_end) sizes_added
      (surplus_is_small x y present) high_above high_near left

  sum_up_under : Under (slight (fraction_add (size x) (size y))) (low (sum_up x y)) (fraction_add (low x) (low y))
  unfolding sum_up
  sum_up_under =
      narrow_under low_end high_end (x.s +ℤ pos (surplus x y)) (exact_end x y x.lo y.lo *ℤ pos (2 ^ 58)) x.s
      (pos (both_sizes x y)) (surplus x y) (2 ^ 58) _ _ (omega arith) refl (ratio x.lo y.lo) size_allowed keeps_low

  sum_up_over : Over (slight (fraction_add (size x) (size y))) (high (sum_up x y)) (fraction_add (high x) (high y))
  unfolding sum_up
  sum_up_over =
      narrow_over low_end high_end (x.s +ℤ pos (surplus x y)) (exact_end x y x.hi y.hi *ℤ pos (2 ^ 58)) x.s
      (pos (both_sizes x y)) (surplus x y) (2 ^ 58) _ _ (omega arith) refl (ratio x.hi y.hi) size_allowed keeps_high

-- ---- in either order, and with 0
swapped_under : (a b r t z : Fraction) → Under (slight (fraction_add a b)) z (fraction_add r t)
    → Under (slight (fraction_add b a)) z (fraction_add t r)
swapped_under a b r t z h =
    subst (λ d. Under (slight d) z (fraction_add t r)) (fraction_add-comm a b)
    (subst (λ q. Under (slight (fraction_add a b)) z q) (fraction_add-comm r t) h)

swapped_over : (a b r t z : Fraction) → Over (slight (fraction_add a b)) z (fraction_add r t)
    → Over (slight (fraction_add b a)) z (fraction_add t r)
swapped_over a b r t z h =
    subst (λ d. Over (slight d) z (fraction_add t r)) (fraction_add-comm a b)
    (subst (λ q. Over (slight (fraction_add a b)) z q) (fraction_add-comm r t) h)

-- a number of no units adds nothing
zero_is_ratio : (p q s t : ℤ) → p ≡ pos 0 → IsRatio (fraction_add (in_units p s) (in_units q t)) q t 1
zero_is_ratio p q s t e =
    ap (λ w. (w *ℤ pos (2 ^ up s) *ℤ pos (2 ^ down t) +ℤ q *ℤ pos (2 ^ up t) *ℤ pos (2 ^ down s)) *ℤ pos (2 ^ down t * 1)) e ∙
    ring (q ∷ pos (2 ^ up s) ∷ pos (2 ^ down s) ∷ pos (2 ^ up t) ∷ pos (2 ^ down t) ∷ [])
    ((lit (pos 0) ⊗ v 1 ⊗ v 4 ⊕ v 0 ⊗ v 3 ⊗ v 2) ⊗ (v 4 ⊗ lit (pos 1))) (v 0 ⊗ (v 3 ⊗ (v 2 ⊗ v 4))) tt

nothing_allowed : (m n : ℕ) (s t e : ℤ) → IsAllowed (slight (fraction_add (in_units (pos m) s) (in_units (pos n) t)))
    (pos 0) e 1
nothing_allowed m n s t e = rw (zero-*ℤ (pos (2 ^ up e * (2 ^ down s * 2 ^ down t * 2 ^ 58)))) (omega (arith, lin))

one_unit : (z : ℤ) → z *ℤ pos (2 ^ 0 * 1) ≡ z
one_unit z = ring (z ∷ []) (v 0 ⊗ lit (pos 1)) (v 0) tt

module _ (x y : Interval) (absent : is_zero x ≡ true) where
  none_lost : IsAllowed (slight (fraction_add (size x) (size y))) (pos 0) y.s 1
  none_lost = nothing_allowed (greatest_end x) (greatest_end y) x.s y.s y.s

  zero_under : Under (slight (fraction_add (size x) (size y))) (low y) (fraction_add (low x) (low y))
  zero_under =
      rounded_under y.lo y.lo y.s y.s (pos 0) 0 1 _ _ (omega arith) (omega (arith, lin))
      (zero_is_ratio x.lo y.lo x.s y.s (zero_ends x.lo x.hi absent).0) none_lost
      (omega (arith, lin, one_unit y.lo)) (omega (arith, lin, one_unit y.lo))

  zero_over : Over (slight (fraction_add (size x) (size y))) (high y) (fraction_add (high x) (high y))
  zero_over =
      rounded_over y.hi y.hi y.s y.s (pos 0) 0 1 _ _ (omega arith) (omega (arith, lin))
      (zero_is_ratio x.hi y.hi x.s y.s (zero_ends x.lo x.hi absent).1) none_lost
      (omega (arith, lin, one_unit y.hi)) (omega (arith, lin, one_unit y.hi))

-- ---- the sum
record IsNearSum (x y t : Interval) : Type 0 where
  under : Under (slight (fraction_add (size x) (size y))) (low t) (fraction_add (low x) (low y))
  over : Over (slight (fraction_add (size x) (size y))) (high t) (fraction_add (high x) (high y))

swapped : (x y t : Interval) → IsNearSum x y t → IsNearSum y x t
swapped x y t h =
    record {
      under = swapped_under (size x) (size y) (low x) (low y) (low t) h.under;
      over = swapped_over (size x)
          (size y) (high x) (high y) (high t) h.over;
    }

near_sum : (x y : Interval) → IsNearSum x y (sum x y)
unfolding sum
near_sum x y = by (is_zero x) (is_zero y) (le_z x.s y.s) refl refl refl
  where
    by : (a b c : Bool) → is_zero x ≡ a → is_zero y ≡ b → le_z x.s y.s ≡ c
        → IsNearSum x y (if a then y else (if b then x else (if c then sum_up x y else sum_up y x)))
    by true b c e f g = record { under = zero_under x y e; over = zero_over x y e }
    by false true c e f g = swapped y x x (record { under = zero_under y x f; over = zero_over y x f })
    by false false true e f g = let o : x.s ≤ℤ y.s = omega
        (arith, lin) in record { under = sum_up_under x y o f; over = sum_up_over x y o f }
    by false false false e f g =
        let o : y.s ≤ℤ x.s = omega (arith, lin) in
        swapped y x (sum_up y x) (record { under = sum_up_under y x o e; over = sum_up_over y x o e })

pub sum_under : (x y : Interval) → Under (slight (fraction_add (size x) (size y))) (low (sum x y))
    (fraction_add (low x) (low y))
sum_under x y = (near_sum x y).under

pub sum_over : (x y : Interval) → Over (slight (fraction_add (size x) (size y))) (high (sum x y))
    (fraction_add (high x) (high y))
sum_over x y = (near_sum x y).over

-- ---- the difference
negated_size : (y : Interval) → size (negated y) ≡ size y
negated_size y =
    let e : greatest_end (negated y) ≡ greatest_end y = omega (arith, ints) in
    ap (λ n. in_units (pos n) y.s) e

less_is_more : (r : Fraction) (z s : ℤ) → fraction_add r (in_units (neg_ℤ z) s) ≡ fraction_sub r (in_units z s)
less_is_more r z s =
    let e = ring (r.numerator ∷ pos r.denominator ∷ z ∷ pos (2 ^ up s) ∷ pos (2 ^ down s) ∷ [])
    (v 0 ⊗ v 4 ⊕ minus (v 2) ⊗ v 3 ⊗ v 1)
    (v 0 ⊗ v 4 ⊖ v 2 ⊗ v 3 ⊗ v 1) tt in
    ap (λ n. fraction n (r.denominator * 2 ^ down s)) e

-- what holds of the sizes of x and -y, and of a number less the negated z, holds of those of x and y, and of it and z
taken : (T : Fraction → Fraction → Type 0) (x y : Interval) (r : Fraction) (z : ℤ)
    → T (slight (fraction_add (size x) (size (negated y)))) (fraction_add r (in_units (neg_ℤ z) y.s))
    → T (slight (fraction_add (size x) (size y))) (fraction_sub r (in_units z y.s))
taken T x y r z h =
    subst (λ d. T (slight (fraction_add (size x) d)) (fraction_sub r (in_units z y.s))) (negated_size y)
    (subst (T (slight (fraction_add (size x) (size (negated y))))) (less_is_more r z y.s) h)

pub difference_under : (x y : Interval)
    → Under (slight (fraction_add (size x) (size y))) (low (difference x y)) (fraction_sub (low x) (high y))
unfolding difference
difference_under x y = taken (λ d. Under d (low (sum x (negated y)))) x y (low x) y.hi (sum_under x (negated y))

pub difference_over : (x y : Interval)
    → Over (slight (fraction_add (size x) (size y))) (high (difference x y)) (fraction_sub (high x) (low y))
unfolding difference
difference_over x y = taken (λ d. Over d (high (sum x (negated y)))) x y (high x) y.lo (sum_over x (negated y))
