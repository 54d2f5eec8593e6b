-- The quotient that the ends of a decimal are, by the signs of its two exponents.
use Rattle.std.proofs.Common.{◌≡◌, ℕ, zero, suc, ◌*◌, ◌^◌, ◌≤◌, arith, refl, ap, ◌∙◌, [], ◌∷◌, ℤ, pos, negsuc, ◌*ℤ◌, ◌≤ℤ◌, unsigned_abs}
use Rattle.std.proofs.lemmas.Int.{ints, unsigned_abs-mul}
use borrow.Author.Differences.{up, down}
use Rattle.spec_intervals.specs.Interval.{IsIval, IsDistance, IsCosine, end_limit, distance_exponent, cosine_exponent, interval, decimal_top, decimal_bottom, from_decimal}
use Rattle.spec_numbers.specs.Numbers.{floor_div, ceil_div}
use Rattle.std.proofs.lemmas.Nat.{mul-le}
use Rattle.spec_numbers.proofs.Floor.{floor_div-one, ceil_div-one, floor_div-small, ceil_div-small, ordered_quotients}
use Rattle.spec_intervals.proofs.Decimals.{bottom_pos}
use Rattle.spec_numbers.proofs.Ring.{v, k as lit, ◌⊗◌, ring}

not_above : (z : ℤ) → z ≤ℤ pos 0 → (up z ≡ 0) × (down z ≡ unsigned_abs z)
not_above (pos zero) h = (refl, refl)
not_above (pos (suc n)) h = absurd (omega (arith, ints))
not_above (negsuc n) h = (refl, refl)

not_below : (z : ℤ) → pos 0 ≤ℤ z → (down z ≡ 0) × (up z ≡ unsigned_abs z)
not_below (pos n) h = (refl, refl)
not_below (negsuc n) h = absurd (omega (arith, ints))

-- the exponent s is not above 0, so its power of 2 stands above
top_is : (m q s : ℤ) → s ≤ℤ pos 0 → decimal_top m q s ≡ m *ℤ pos (2 ^ unsigned_abs s) *ℤ pos (10 ^ up q)
top_is m q s h =
    let e : down s ≡ unsigned_abs s = (not_above s h).1 in
    rw e (ring (m ∷ pos (10 ^ up q) ∷ pos (2 ^ unsigned_abs s) ∷ []) (v 0 ⊗ (v 1 ⊗ v 2)) (v 0 ⊗ v 2 ⊗ v 1) tt)

bottom_is : (q s : ℤ) → s ≤ℤ pos 0 → decimal_bottom q s ≡ 10 ^ down q
bottom_is q s h = let e : up s ≡ 0 = (not_above s h).0 in rw e (omega arith)

module _ (m q s : ℤ) (h : s ≤ℤ pos 0) where
  whole_top : pos 0 ≤ℤ q → decimal_top m q s ≡ m *ℤ pos (2 ^ unsigned_abs s) *ℤ pos (10 ^ unsigned_abs q)
  whole_top p = top_is m q s h ∙ ap (λ n. m *ℤ pos (2 ^ unsigned_abs s) *ℤ pos (10 ^ n)) (not_below q p).1

  whole_bottom : pos 0 ≤ℤ q → decimal_bottom q s ≡ 1
  whole_bottom p = bottom_is q s h ∙ ap (λ n. 10 ^ n) (not_below q p).0

  pub whole-low : pos 0 ≤ℤ q → floor_div (decimal_top m q s) (decimal_bottom q s) ≡ m *ℤ pos (2 ^ unsigned_abs s) *ℤ pos (10 ^ unsigned_abs q)
  whole-low p = ap (λ n. floor_div (decimal_top m q s) n) (whole_bottom p) ∙ (floor_div-one (decimal_top m q s) ∙ whole_top p)

  pub whole-high : pos 0 ≤ℤ q → ceil_div (decimal_top m q s) (decimal_bottom q s) ≡ m *ℤ pos (2 ^ unsigned_abs s) *ℤ pos (10 ^ unsigned_abs q)
  whole-high p = ap (λ n. ceil_div (decimal_top m q s) n) (whole_bottom p) ∙ (ceil_div-one (decimal_top m q s) ∙ whole_top p)

  tenths_top : q ≤ℤ pos 0 → decimal_top m q s ≡ m *ℤ pos (2 ^ unsigned_abs s)
  tenths_top p =
      let u : up q ≡ 0 = (not_above q p).0 in
      top_is m q s h ∙ (ap (λ n. m *ℤ pos (2 ^ unsigned_abs s) *ℤ pos (10 ^ n)) u ∙ ring (m ∷ pos (2 ^ unsigned_abs s) ∷ []) (v 0 ⊗ v 1 ⊗ lit (pos 1)) (v 0 ⊗ v 1) tt)

  tenths_bottom : q ≤ℤ pos 0 → decimal_bottom q s ≡ 10 ^ unsigned_abs q
  tenths_bottom p = let d : down q ≡ unsigned_abs q = (not_above q p).1 in bottom_is q s h ∙ ap (λ n. 10 ^ n) d

  pub tenths-low : q ≤ℤ pos 0 → floor_div (decimal_top m q s) (decimal_bottom q s) ≡ floor_div (m *ℤ pos (2 ^ unsigned_abs s)) (10 ^ unsigned_abs q)
  tenths-low p = ap (λ n. floor_div (decimal_top m q s) n) (tenths_bottom p) ∙ ap (λ z. floor_div z (10 ^ unsigned_abs q)) (tenths_top p)

  pub tenths-high : q ≤ℤ pos 0 → ceil_div (decimal_top m q s) (decimal_bottom q s) ≡ ceil_div (m *ℤ pos (2 ^ unsigned_abs s)) (10 ^ unsigned_abs q)
  tenths-high p = ap (λ n. ceil_div (decimal_top m q s) n) (tenths_bottom p) ∙ ap (λ z. ceil_div z (10 ^ unsigned_abs q)) (tenths_top p)

  -- what is at most 2^60 in size, of a whole decimal
  pub whole-size : pos 0 ≤ℤ q → unsigned_abs m * (10 ^ up q * 2 ^ down s) ≤ 2 ^ 60 * 10 ^ down q → unsigned_abs (m *ℤ pos (2 ^ unsigned_abs s)) * 10 ^ unsigned_abs q ≤ 2 ^ 60
  whole-size p r =
      let d : down q ≡ 0 = (not_below q p).0 in
      let u : up q ≡ unsigned_abs q = (not_below q p).1 in
      let e : down s ≡ unsigned_abs s = (not_above s h).1 in
      let a : unsigned_abs (m *ℤ pos (2 ^ unsigned_abs s)) ≡ unsigned_abs m * 2 ^ unsigned_abs s = unsigned_abs-mul m (pos (2 ^ unsigned_abs s)) in
      rw a (regrouped (unsigned_abs m) (10 ^ unsigned_abs q) (2 ^ unsigned_abs s) (rw (d, u, e) at r))
    where
      regrouped : (a b c : ℕ) → a * (b * c) ≤ 2 ^ 60 * 1 → a * c * b ≤ 2 ^ 60
      regrouped a b c h = omega arith

-- the two quotients make an interval
module _ (m q s : ℤ) (h : s ≤ℤ pos 0) (size : unsigned_abs m * (10 ^ up q * 2 ^ down s) ≤ 2 ^ 60 * 10 ^ down q) where
  top_size : unsigned_abs (decimal_top m q s) ≤ end_limit * decimal_bottom q s
  top_size =
      let a : unsigned_abs (decimal_top m q s) ≡ unsigned_abs m * (10 ^ up q * 2 ^ down s) = unsigned_abs-mul m (pos (10 ^ up q * 2 ^ down s)) in
      rw (a, bottom_is q s h) (wider (unsigned_abs m * (10 ^ up q * 2 ^ down s)) (10 ^ down q) size)
    where
      wider : (a b : ℕ) → a ≤ 2 ^ 60 * b → a ≤ end_limit * b
      wider a b r = omega arith

  pub decimal-IsIval : IsIval (interval (floor_div (decimal_top m q s) (decimal_bottom q s)) (ceil_div (decimal_top m q s) (decimal_bottom q s)) s)
  decimal-IsIval = record {
    ordered = ordered_quotients (decimal_top m q s) (decimal_top m q s) (decimal_bottom q s) (bottom_pos q s) (omega (arith, ints));
    lo_small = floor_div-small (decimal_top m q s) (decimal_bottom q s) end_limit (bottom_pos q s) top_size;
    hi_small = ceil_div-small (decimal_top m q s) (decimal_bottom q s) end_limit (bottom_pos q s) top_size;
  }

  pub from_decimal-parts : (lo hi : ℤ) → lo ≡ floor_div (decimal_top m q s) (decimal_bottom q s) → hi ≡ ceil_div (decimal_top m q s) (decimal_bottom q s) → interval lo hi s ≡ from_decimal m q s
  unfolding from_decimal
  from_decimal-parts lo hi a b = rw (a, b) refl

-- a length below 2^36 at -24, and a cosine at -60, are at most 2^60 in size there
grouped : (a b c d k : ℕ) → a * b ≤ c * d → a * (b * k) ≤ (c * k) * d
grouped a b c d k h = let g : a * b * k ≤ c * d * k = mul-le (a * b) k (c * d) k h (omega arith) in omega arith

pub distance-size : (m q s : ℤ) → s ≡ distance_exponent → IsDistance m q → unsigned_abs m * (10 ^ up q * 2 ^ down s) ≤ 2 ^ 60 * 10 ^ down q
distance-size m q s e h = rw e (grouped (unsigned_abs m) (10 ^ up q) (2 ^ 36) (10 ^ down q) (2 ^ 24) (omega arith))

pub cosine-size : (m q s : ℤ) → s ≡ cosine_exponent → IsCosine m q → unsigned_abs m * (10 ^ up q * 2 ^ down s) ≤ 2 ^ 60 * 10 ^ down q
cosine-size m q s e h = rw e (grouped (unsigned_abs m) (10 ^ up q) 1 (10 ^ down q) (2 ^ 60) (omega arith))
