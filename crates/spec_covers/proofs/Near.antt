-- An interval that is covered is no greater than the bulk of the model, and what it holds is near the model too.
use Rattle.std.proofs.Common.{◌≡◌, ℕ, suc, ◌*◌, ◌^◌, ◌<◌, arith, sym, subst, inl, inr, [], ◌∷◌, ℤ, pos, negsuc, ◌*ℤ◌, neg_ℤ, ◌≤ℤ◌, unsigned_abs}
use Rattle.std.specs.Prelude.{max}
use Rattle.std.proofs.lemmas.Int.{ints}
use Rattle.std.proofs.lemmas.Bool.{cases_lt}
use borrow.Author.Differences.{up, down}
use Rattle.spec_numbers.specs.Numbers.{power}
use Rattle.spec_numbers.proofs.Ring.{v, ◌⊗◌, minus, ring}
use Rattle.spec_numbers.proofs.Order.{lin}
use Rattle.spec_intervals.specs.Fraction.{Fraction, IsFraction, Holds}
use Rattle.spec_intervals.specs.Interval.{Interval}
use Rattle.spec_chebyshev.specs.Differences.{IsArgument}
use Rattle.spec_models.specs.Ends.{NoMore, in_units, low, high, size}
use Rattle.spec_models.specs.Models.{Model, degree, bulk, IsNear, Covers}
use Rattle.spec_models.proofs.Between.{near-between}
use Rattle.spec_models.proofs.Nearness.{power-one, own-power}
use Rattle.spec_models.proofs.Values.{near-above, near-below}
use Rattle.spec_covers.specs.Combining.{greatest}

-- ---- at an argument
module _ (m : Model) (p q : ℤ) (is : IsArgument p q) where
  abbrev whole : ℤ
  whole = power q (degree m)

  pub whole_positive : (whole ≡ pos (unsigned_abs whole)) × (0 < unsigned_abs whole)
  whole_positive =
      let same = own-power q (degree m) is.positive in
      let some = power-one q (degree m) is.positive in
      (sym same, omega (arith, ints, same, some))

  -- an end, and so the size of an interval that is covered
  end_size : (z s : ℤ) → IsNear m p q (in_units z s) → NoMore (in_units (pos (unsigned_abs z)) s) (greatest m)
  end_size (pos n) s near = near-below p q is m (in_units (pos n) s) near
  end_size (negsuc n) s near =
      let h = near-above p q is m (in_units (negsuc n) s) near in
      turned (2 ^ up s) (2 ^ down s) (bulk m) (2 ^ up m.exponent) (2 ^ down m.exponent) h
    where
      turned : (u l g w b : ℕ) → (neg_ℤ (pos g) *ℤ pos w *ℤ pos l) ≤ℤ (negsuc n *ℤ pos u *ℤ pos b)
          → (pos (suc n) *ℤ pos u *ℤ pos b) ≤ℤ (pos g *ℤ pos w *ℤ pos l)
      turned u l g w b h =
          let e = ring (pos g ∷ pos w ∷ pos l ∷ []) (minus (v 0) ⊗ v 1 ⊗ v 2) (minus (v 0 ⊗ v 1 ⊗ v 2)) tt in
          let f : negsuc n *ℤ pos u *ℤ pos b ≡ neg_ℤ (pos (suc n) *ℤ pos u *ℤ pos b) = ring (pos (suc n) ∷ pos u ∷ pos b ∷ []) (minus (v 0) ⊗ v 1 ⊗ v 2) (minus (v 0 ⊗ v 1 ⊗ v 2)) tt in
          omega (arith, lin)

  pub covered_size : (x : Interval) → Covers m p q x → NoMore (size x) (greatest m)
  covered_size x covers = either (λ n. NoMore (in_units (pos n) x.s) (greatest m)) (unsigned_abs x.lo) (unsigned_abs x.hi) (end_size x.lo x.s covers.low) (end_size x.hi x.s covers.high)
    where
      either : (P : ℕ → Type 0) (a b : ℕ) → P a → P b → P (max a b)
      either P a b pa pb = elim (cases_lt a b) [ inl h ↦ subst P (omega arith) pb | inr h ↦ subst P (omega arith) pa ]

  -- what an interval holds lies between its ends
  pub near_held : (x : Interval) (r : Fraction) → IsFraction r → Covers m p q x → Holds x r → IsNear m p q r
  near_held x r number covers holds =
      near-between m p q (low x) r (high x) number (below (2 ^ up x.s) holds.low) (above (2 ^ up x.s) holds.high) covers.low covers.high
    where
      below : (u : ℕ) → (x.lo *ℤ pos (u * r.denominator)) ≤ℤ (r.numerator *ℤ pos (2 ^ down x.s)) → (x.lo *ℤ pos u *ℤ pos r.denominator) ≤ℤ (r.numerator *ℤ pos (2 ^ down x.s))
      below u h = let e = ring (x.lo ∷ pos u ∷ pos r.denominator ∷ []) (v 0 ⊗ (v 1 ⊗ v 2)) (v 0 ⊗ v 1 ⊗ v 2) tt in omega (arith, lin)

      above : (u : ℕ) → (r.numerator *ℤ pos (2 ^ down x.s)) ≤ℤ (x.hi *ℤ pos (u * r.denominator)) → (r.numerator *ℤ pos (2 ^ down x.s)) ≤ℤ (x.hi *ℤ pos u *ℤ pos r.denominator)
      above u h = let e = ring (x.hi ∷ pos u ∷ pos r.denominator ∷ []) (v 0 ⊗ (v 1 ⊗ v 2)) (v 0 ⊗ v 1 ⊗ v 2) tt in omega (arith, lin)
