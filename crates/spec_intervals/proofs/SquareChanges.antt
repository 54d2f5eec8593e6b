-- The change of the signed square.
use Rattle.std.proofs.Common.{◌≡◌, ℕ, ◌*◌, ◌^◌, max, ◌≤◌, arith, sym, ap, subst, ◌∙◌, [], ◌∷◌, ℤ, pos, negsuc, ◌+ℤ◌, ◌-ℤ◌, ◌*ℤ◌, ◌≤ℤ◌, ◌⊎◌, inl, inr, unsigned_abs}
use Rattle.std.proofs.lemmas.Int.{ints}
use Rattle.std.proofs.Math.Nat.{mul-le-mul_right}
use borrow.Author.Differences.{up, down}
use Rattle.spec_numbers.proofs.Ring.{v, ◌⊕◌, ◌⊖◌, ◌⊗◌, ring}
use Rattle.spec_numbers.proofs.Order.{lin}
use Rattle.spec_numbers.proofs.Sizes.{scaled_size}
use Rattle.spec_intervals.proofs.Narrow.{Holds-narrow}
use Rattle.spec_intervals.proofs.Products.{Holds-product}
use Rattle.spec_intervals.proofs.Squares.{signed_sq-le, signed_sq-scaled}
use Rattle.spec_intervals.proofs.Sums.{sum_high}
use Rattle.spec_intervals.specs.Fraction.{Fraction, IsFraction, Holds, AtMost, AtLeast, fraction, fraction_add, fraction_sub, fraction_mul, fraction_signed_square}
use Rattle.spec_intervals.specs.Interval.{Interval, product, signed_sq}
use Rattle.spec_intervals.specs.Enclosure.{twice_size}
use Rattle.spec_intervals.proofs.Compare.{Holds-between, fraction_le-signs, fraction_le-over}
use Rattle.spec_numbers.proofs.Naturals.{positive_product}

abbrev fraction_zero : Fraction
fraction_zero = fraction (pos 0) 1

abbrev fraction_abs : Fraction → Fraction
fraction_abs r = fraction (pos (unsigned_abs r.numerator)) r.denominator

-- ---- the change of the signed square
-- p|p| - q|q| lies between 0 and (|p| + |q|)(p - q)
cross : (p q : ℤ) → q ≤ℤ p → pos 0 ≤ℤ (pos (unsigned_abs q) *ℤ p -ℤ pos (unsigned_abs p) *ℤ q)
cross (pos a) (pos b) h = omega (arith, ints)
cross (pos a) (negsuc b) h = omega (arith, ints)
cross (negsuc a) (pos b) h = absurd (omega (arith, lin))
cross (negsuc a) (negsuc b) h = omega (arith, ints)

spread : (p q a b : ℤ) → (a +ℤ b) *ℤ (p -ℤ q) ≡ (p *ℤ a -ℤ q *ℤ b) +ℤ (b *ℤ p -ℤ a *ℤ q)
spread p q a b = ring (p ∷ q ∷ a ∷ b ∷ []) ((v 2 ⊕ v 3) ⊗ (v 0 ⊖ v 1)) ((v 0 ⊗ v 2 ⊖ v 1 ⊗ v 3) ⊕ (v 3 ⊗ v 0 ⊖ v 2 ⊗ v 1)) tt

between_size : (lo y hi : ℤ) (m : ℕ) → lo ≤ℤ y → y ≤ℤ hi → unsigned_abs lo ≤ m → unsigned_abs hi ≤ m → unsigned_abs y ≤ m
between_size lo y hi m p q r s = omega (arith, ints)

larger : (a b n : ℕ) → (a * n ≤ max a b * n) × (b * n ≤ max a b * n)
larger a b n = (mul-le-mul_right n (omega arith), mul-le-mul_right n (omega arith))

pub Holds-size : (t : Interval) (r : Fraction) → Holds t r → AtLeast (pos (max (unsigned_abs t.lo) (unsigned_abs t.hi))) t.s (fraction_abs r)
Holds-size t r h =
    let a = scaled_size r.numerator (2 ^ down t.s) in
    let b = scaled_size t.lo (2 ^ up t.s * r.denominator) in
    let c = scaled_size t.hi (2 ^ up t.s * r.denominator) in
    let l = larger (unsigned_abs t.lo) (unsigned_abs t.hi) (2 ^ up t.s * r.denominator) in
    let w : unsigned_abs (r.numerator *ℤ pos (2 ^ down t.s)) ≤ max (unsigned_abs t.lo) (unsigned_abs t.hi) * (2 ^ up t.s * r.denominator) = between_size (t.lo *ℤ pos (2 ^ up t.s * r.denominator)) (r.numerator *ℤ pos (2 ^ down t.s)) (t.hi *ℤ pos (2 ^ up t.s * r.denominator)) (max (unsigned_abs t.lo) (unsigned_abs t.hi) * (2 ^ up t.s * r.denominator)) h.low h.high (rw b l.0) (rw c l.1) in
    let w' : unsigned_abs r.numerator * 2 ^ down t.s ≤ max (unsigned_abs t.lo) (unsigned_abs t.hi) * (2 ^ up t.s * r.denominator) = rw a at w in
    omega (arith, lin)

module _ (range step : Interval) (f g : Fraction) (pf : IsFraction f) (pg : IsFraction g) (hf : Holds range f) (hg : Holds range g) (hs : Holds step (fraction_sub g f)) where
  abbrev total : Fraction
  total = fraction_add (fraction_abs g) (fraction_abs f)

  abbrev M : ℕ
  M = max (unsigned_abs range.lo) (unsigned_abs range.hi)

  total_low : AtMost (pos 0) range.s total
  total_low = omega (arith, ints)

  total_high : AtLeast (pos (2 * M)) range.s total
  total_high =
      let e : pos M +ℤ pos M ≡ pos (2 * M) = omega (arith, lin) in
      subst (λ x. AtLeast x range.s total) e (sum_high (pos M) (pos M) range.s (fraction_abs g) (fraction_abs f) (Holds-size range g hg) (Holds-size range f hf))

  holds-total : Holds (twice_size range) total
  unfolding twice_size
  holds-total = Holds-narrow (pos 0) (pos (2 * M)) range.s total total_low total_high

  zero_most : AtMost (pos 0) range.s fraction_zero
  zero_most = omega (arith, ints)

  zero_least : AtLeast (pos (2 * M)) range.s fraction_zero
  zero_least = omega (arith, ints)

  holds-nothing : Holds (twice_size range) fraction_zero
  unfolding twice_size
  holds-nothing = Holds-narrow (pos 0) (pos (2 * M)) range.s fraction_zero zero_most zero_least

  -- the interval of the step holds 0 and the bound of the change, which lies between
  abbrev whole : Fraction
  whole = fraction_mul total (fraction_sub g f)

  abbrev none : Fraction
  none = fraction_mul fraction_zero (fraction_sub g f)

  abbrev wanted : Fraction
  wanted = fraction_sub (fraction_signed_square g) (fraction_signed_square f)

  abbrev p : ℤ
  p = g.numerator *ℤ pos f.denominator

  abbrev q : ℤ
  q = f.numerator *ℤ pos g.denominator

  wanted_is : wanted.numerator ≡ signed_sq p -ℤ signed_sq q
  wanted_is = let a = signed_sq-scaled g.numerator f.denominator in let b = signed_sq-scaled f.numerator g.denominator in omega (arith, lin)

  whole_is : whole.numerator ≡ wanted.numerator +ℤ (pos (unsigned_abs q) *ℤ p -ℤ pos (unsigned_abs p) *ℤ q)
  whole_is =
      let a = scaled_size g.numerator f.denominator in
      let b = scaled_size f.numerator g.denominator in
      let e : (pos (unsigned_abs p) +ℤ pos (unsigned_abs q)) *ℤ (p -ℤ q) ≡ (p *ℤ pos (unsigned_abs p) -ℤ q *ℤ pos (unsigned_abs q)) +ℤ (pos (unsigned_abs q) *ℤ p -ℤ pos (unsigned_abs p) *ℤ q) = spread p q (pos (unsigned_abs p)) (pos (unsigned_abs q)) in
      let c : whole.numerator ≡ (pos (unsigned_abs p) +ℤ pos (unsigned_abs q)) *ℤ (p -ℤ q) = ap (λ n. pos n *ℤ (p -ℤ q)) (rw (a, b)) in
      rw wanted_is (c ∙ e)

  dens : whole.denominator ≡ wanted.denominator
  dens = grind arith

  none_num : none.numerator ≡ pos 0
  none_num = omega (arith, ints)

  none_is : IsFraction none
  none_is = positive_product 1 (g.denominator * f.denominator) (omega arith) (positive_product g.denominator f.denominator pg pf)

  whole_real : IsFraction whole
  whole_real = positive_product (g.denominator * f.denominator) (g.denominator * f.denominator) (positive_product g.denominator f.denominator pg pf) (positive_product g.denominator f.denominator pg pf)

  pub Holds-square_step : Holds (product (twice_size range) step) wanted
  Holds-square_step = by (le_cases q p)
    where
      le_cases : (a b : ℤ) → (a ≤ℤ b) ⊎ (b ≤ℤ a)
      le_cases a b = grind (arith, ints)

      h0 : Holds (product (twice_size range) step) none
      h0 = Holds-product (twice_size range) step fraction_zero (fraction_sub g f) holds-nothing hs

      h1 : Holds (product (twice_size range) step) whole
      h1 = Holds-product (twice_size range) step total (fraction_sub g f) holds-total hs

      by : (q ≤ℤ p) ⊎ (p ≤ℤ q) → Holds (product (twice_size range) step) wanted
      by (inl h) =
          let u : signed_sq q ≤ℤ signed_sq p = signed_sq-le q p h in
          let w : pos 0 ≤ℤ (pos (unsigned_abs q) *ℤ p -ℤ pos (unsigned_abs p) *ℤ q) = cross p q h in
          Holds-between (product (twice_size range) step) none wanted whole none_is whole_real (fraction_le-signs none wanted (omega (arith, lin, none_num)) (omega (arith, lin, wanted_is, u))) (fraction_le-over wanted whole (sym dens) (omega (arith, lin, whole_is, w))) h0 h1
      by (inr h) =
          let u : signed_sq p ≤ℤ signed_sq q = signed_sq-le p q h in
          let w : pos 0 ≤ℤ (pos (unsigned_abs p) *ℤ q -ℤ pos (unsigned_abs q) *ℤ p) = cross q p h in
          Holds-between (product (twice_size range) step) whole wanted none whole_real none_is (fraction_le-over whole wanted dens (omega (arith, lin, whole_is, w))) (fraction_le-signs wanted none (omega (arith, lin, wanted_is, u)) (omega (arith, lin, none_num))) h1 h0
