-- The sizes of intervals, and numbers of units, as fractions.
use Rattle.std.proofs.Common.{◌≡◌, ◌⊎◌, inl, inr, ℕ, ◌*◌, ◌^◌, max, ◌<◌, ◌≤◌, arith, refl, [], ◌∷◌, sym, ap, ◌∙◌, ℤ, pos, negsuc, neg_ℤ, ◌+ℤ◌, ◌*ℤ◌, ◌≤ℤ◌, unsigned_abs}
use Rattle.std.proofs.lemmas.Bool.{cases_lt}
use Rattle.std.proofs.lemmas.Nat.{pow_pos}
use borrow.Author.Differences.{up, down}
use Rattle.spec_numbers.proofs.Ring.{v, k as lit, ◌⊗◌, minus, ring}
use Rattle.spec_numbers.proofs.Order.{lin, le-mul}
use Rattle.spec_numbers.proofs.Sizes.{size_between}
use Rattle.spec_intervals.specs.Enclosure.{IsWithin}
use Rattle.spec_intervals.specs.Fraction.{Fraction, IsFraction}
use Rattle.spec_intervals.specs.Interval.{Interval, end_limit}
use Rattle.spec_intervals.proofs.Narrow.{zero_ends}
use Rattle.spec_models.specs.Inclusion.{Includes, Spans}
use Rattle.spec_models.specs.Ends.{NoMore, greatest_end, high, in_units, low, size}
use Rattle.spec_models.proofs.Near.{raised_powers}
use Rattle.spec_models.proofs.Ordered.{more_units}
use Rattle.spec_stills.specs.Margins.{opposite}

-- ---- numbers of units
pub units_are_fraction : (z s : ℤ) → IsFraction (in_units z s)
units_are_fraction z s = pow_pos (down s)

-- both sides of a comparison of units whose exponents are g apart
module _ (z w e s : ℤ) (g : ℕ) (is_raised : s ≡ e +ℤ pos g) where
  left_side : z *ℤ pos (2 ^ g) *ℤ pos (2 ^ up e * 2 ^ down s) ≡ z *ℤ pos (2 ^ up s) *ℤ pos (2 ^ down e)
  left_side =
      ring (z ∷ pos (2 ^ g) ∷ pos (2 ^ up e) ∷ pos (2 ^ down s) ∷ []) (v 0 ⊗ v 1 ⊗ (v 2 ⊗ v 3)) (v 0 ⊗ (v 2 ⊗ v 1 ⊗ v 3)) tt ∙
      (ap (λ n. z *ℤ pos n) (sym (raised_powers e s g is_raised)) ∙
      ring (z ∷ pos (2 ^ up s) ∷ pos (2 ^ down e) ∷ []) (v 0 ⊗ (v 1 ⊗ v 2)) (v 0 ⊗ v 1 ⊗ v 2) tt)

  right_side : w *ℤ pos (2 ^ up e * 2 ^ down s) ≡ w *ℤ pos (2 ^ up e) *ℤ pos (2 ^ down s)
  right_side = ring (w ∷ pos (2 ^ up e) ∷ pos (2 ^ down s) ∷ []) (v 0 ⊗ (v 1 ⊗ v 2)) (v 0 ⊗ v 1 ⊗ v 2) tt

  pub fine_no_more : w ≤ℤ (z *ℤ pos (2 ^ g)) → NoMore (in_units w e) (in_units z s)
  fine_no_more h =
      let l = le-mul w (z *ℤ pos (2 ^ g)) (pos (2 ^ up e * 2 ^ down s)) (omega (arith, lin)) h in
      let a = left_side in
      let b = right_side in
      omega (arith, lin)

-- ---- sizes
-- what holds for both of two numbers holds for the greater
greater_of : (P : ℕ → Type 0) (a b : ℕ) → P a → P b → P (max a b)
greater_of P a b p q = by (cases_lt a b)
  where
    by : (a < b) ⊎ (b ≤ a) → P (max a b)
    by (inl h) = let e : max a b ≡ b = omega arith in rw e q
    by (inr h) = let e : max a b ≡ a = omega arith in rw e p

spanned_size : (y x : Interval) → x.lo ≤ℤ x.hi → (s : Spans y x) → greatest_end x ≤ greatest_end y * 2 ^ s.gap
spanned_size y x o s =
    let low = s.low in
    let high = s.high in
    let bounded = λ (z : ℤ). size_between y.lo y.hi z (greatest_end y) (2 ^ s.gap) (omega arith) (omega arith) in
    let a = bounded x.lo s.low (omega (arith, lin)) in
    let b = bounded x.hi (omega (arith, lin)) s.high in
    omega arith

nothing_no_more : (m n : ℕ) (s t : ℤ) → m ≡ 0 → NoMore (in_units (pos m) s) (in_units (pos n) t)
nothing_no_more m n s t e =
    let f = ap (λ k. pos k *ℤ pos (2 ^ up s) *ℤ pos (2 ^ down t)) e ∙
    ring (pos (2 ^ up s) ∷ pos (2 ^ down t) ∷ []) (lit (pos 0) ⊗ v 0 ⊗ v 1) (lit (pos 0)) tt in
    rw f (omega (arith, lin))

-- what is included has no greater size
pub included_size : (y x : Interval) → x.lo ≤ℤ x.hi → Includes y x → NoMore (size x) (size y)
included_size y x o (inl s) =
    fine_no_more (pos (greatest_end y)) (pos (greatest_end x)) x.s y.s s.gap s.exponent
    (omega (arith, lin, spanned_size y x o s))
included_size y x o (inr h) =
    let e = zero_ends x.lo x.hi h.zero in
    nothing_no_more (greatest_end x) (greatest_end y) x.s y.s (ends_zero x.lo x.hi e.0 e.1)
  where
    ends_zero : (p q : ℤ) → p ≡ pos 0 → q ≡ pos 0 → max (unsigned_abs p) (unsigned_abs q) ≡ 0
    ends_zero p q f g = rw (f, g) refl

-- an end is no more than the size
pub high_no_more : (x : Interval) → NoMore (high x) (size x)
high_no_more x = more_units x.hi (pos (greatest_end x)) x.s (omega (arith, lin))

pub size_no_less : (x : Interval) → NoMore (opposite (size x)) (low x)
size_no_less x =
    let h = more_units (neg_ℤ (pos (greatest_end x))) x.lo x.s (omega (arith, lin)) in
    let e = ring (pos (greatest_end x) ∷ pos (2 ^ up x.s) ∷ []) (minus (v 0) ⊗ v 1) (minus (v 0 ⊗ v 1)) tt in
    rw (← e) h

-- ends within a number and its opposite
size_of_end : (z : ℤ) (u q : ℕ) (b : ℤ) → (z *ℤ pos u *ℤ pos q) ≤ℤ b → neg_ℤ b ≤ℤ (z *ℤ pos u *ℤ pos q)
    → (pos (unsigned_abs z) *ℤ pos u *ℤ pos q) ≤ℤ b
size_of_end (pos n) u q b h g = h
size_of_end (negsuc n) u q b h g =
    let e = ring (negsuc n ∷ pos u ∷ pos q ∷ []) (minus (v 0) ⊗ v 1 ⊗ v 2) (minus (v 0 ⊗ v 1 ⊗ v 2)) tt in
    omega (arith, lin)

pub size_within : (x : Interval) (r : Fraction) → x.lo ≤ℤ x.hi → NoMore (high x) r → NoMore (opposite r) (low x)
    → NoMore (size x) r
size_within x r o h g =
    let l = le-mul x.lo x.hi (pos (2 ^ up x.s * r.denominator)) (omega (arith, lin)) o in
    let a = apart x.lo in
    let b = apart x.hi in
    let e = ring (r.numerator ∷ pos (2 ^ down x.s) ∷ []) (minus (v 0) ⊗ v 1) (minus (v 0 ⊗ v 1)) tt in
    greater_of (λ n. (pos n *ℤ pos (2 ^ up x.s) *ℤ pos r.denominator) ≤ℤ (r.numerator *ℤ pos (2 ^ down x.s))) _ _
    (size_of_end x.lo (2 ^ up x.s) r.denominator _ (omega (arith, lin)) (omega (arith, lin)))
    (size_of_end x.hi (2 ^ up x.s) r.denominator _ h (omega (arith, lin)))
  where
    apart : (z : ℤ) → z *ℤ pos (2 ^ up x.s * r.denominator) ≡ z *ℤ pos (2 ^ up x.s) *ℤ pos r.denominator
    apart z = ring (z ∷ pos (2 ^ up x.s) ∷ pos r.denominator ∷ []) (v 0 ⊗ (v 1 ⊗ v 2)) (v 0 ⊗ v 1 ⊗ v 2) tt

-- ends of at most 2^62
pub limited_size : (n : ℕ) (x : Interval) → IsWithin n x → NoMore (size x) (in_units (pos end_limit) x.s)
limited_size n x h =
    let a = h.lo_small in
    let b = h.hi_small in
    more_units (pos (greatest_end x)) (pos end_limit) x.s (omega (arith, lin))
