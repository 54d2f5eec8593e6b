-- Sums of coefficients times entries are exact: each is covered by the sum of the models of these.
use Rattle.std.proofs.Common.{◌≡◌, ℕ, suc, refl, List, ◌∷◌, ℤ, pos, ◌+ℤ◌, ◌*ℤ◌, neg_ℤ}
use Rattle.std.proofs.lemmas.Nat.{pow_pos}
use borrow.Author.Differences.{down}
use Rattle.spec_intervals.specs.Interval.{distance_exponent}
use Rattle.spec_chebyshev.specs.declared.ends.Ival62.{Ival62}
use Rattle.spec_chebyshev.specs.Differences.{IsArgument}
use Rattle.spec_models.specs.Ends.{in_units}
use Rattle.spec_motions.specs.Sums.{multiples, sum_low, sum_high}
use Rattle.spec_motions.specs.Enclosures.{sum_exponent}
use Rattle.spec_models.specs.Models.{Model, IsNear, Covers}
use Rattle.spec_covers.specs.Combining.{AddsTo, MultipliesTo, RepeatsTo}
use Rattle.spec_covers.specs.Series.{of_entry, of_coefficient, sums}
use Rattle.spec_models.proofs.Between.{near-same}
use Rattle.spec_covers.proofs.Units.{same_sum, same_product, same_multiple}
use Rattle.spec_covers.proofs.Steps.{at_least4, at_greatest4}

module _ (p q : ℤ) (is : IsArgument p q) (unit : ℕ) (row : ℕ → Ival62) where
  -- k times an entry
  pub Covers-multiples : (j : ℕ) (m k : Model) → RepeatsTo (suc j) m k → Covers m p q (of_entry unit (row j))
      → Covers k p q (of_entry unit (multiples row (suc j)))
  Covers-multiples j m k repeats covers = record {
    low = near-same k p q _ (in_units (pos (suc j) *ℤ (row j).lo) (neg_ℤ (pos unit))) (pow_pos (down (neg_ℤ (pos unit)))) (same_multiple (suc j) (row j).lo (neg_ℤ (pos unit))) (repeats p q (in_units (row j).lo (neg_ℤ (pos unit))) is covers.low);
    high = near-same k p q _ (in_units (pos (suc j) *ℤ (row j).hi) (neg_ℤ (pos unit))) (pow_pos (down (neg_ℤ (pos unit)))) (same_multiple (suc j) (row j).hi (neg_ℤ (pos unit))) (repeats p q (in_units (row j).hi (neg_ℤ (pos unit))) is covers.high);
  }

  -- ---- one coefficient more
  module _ (j : ℕ) (c : Ival62) (cs : List Ival62) (m n w rest k : Model) (multiplies : MultipliesTo m n w) (adds : AddsTo w rest k)
      (first : Covers m p q (of_coefficient c)) (second : Covers n p q (of_entry unit (row j))) (others : Covers rest p q (sums unit row (suc j) cs)) where
    exponents : sum_exponent unit ≡ distance_exponent +ℤ neg_ℤ (pos unit)
    exponents = refl

    -- the sum of a product of ends and of another number
    module _ (x e y : ℤ) (near_x : IsNear m p q (in_units x distance_exponent)) (near_e : IsNear n p q (in_units e (neg_ℤ (pos unit)))) (near_y : IsNear rest p q (in_units y (sum_exponent unit))) where
      near_product : IsNear w p q (in_units (x *ℤ e) (sum_exponent unit))
      near_product =
          near-same w p q _ (in_units (x *ℤ e) (sum_exponent unit)) (pow_pos (down (sum_exponent unit))) (same_product x e distance_exponent (neg_ℤ (pos unit)) (sum_exponent unit) exponents) (multiplies p q (in_units x distance_exponent) (in_units e (neg_ℤ (pos unit))) is near_x near_e)

      near_sum : IsNear k p q (in_units (x *ℤ e +ℤ y) (sum_exponent unit))
      near_sum =
          near-same k p q _ (in_units (x *ℤ e +ℤ y) (sum_exponent unit)) (pow_pos (down (sum_exponent unit))) (same_sum (x *ℤ e) y (sum_exponent unit)) (adds p q (in_units (x *ℤ e) (sum_exponent unit)) (in_units y (sum_exponent unit)) is near_product near_y)

    abbrev IsEnd : ℤ → ℤ → Type 0
    IsEnd y z = IsNear k p q (in_units (z +ℤ y) (sum_exponent unit))

    pub Covers-sums : Covers k p q (sums unit row j (c ∷ cs))
    Covers-sums = record {
      low =
          at_least4 (IsEnd (sum_low row (suc j) cs)) c.lo c.hi (row j).lo (row j).hi
          (near_sum c.lo (row j).lo _ first.low second.low others.low) (near_sum c.lo (row j).hi _ first.low second.high others.low)
          (near_sum c.hi (row j).lo _ first.high second.low others.low) (near_sum c.hi (row j).hi _ first.high second.high others.low);
      high =
          at_greatest4 (IsEnd (sum_high row (suc j) cs)) c.lo c.hi (row j).lo (row j).hi
          (near_sum c.lo (row j).lo _ first.low second.low others.high) (near_sum c.lo (row j).hi _ first.low second.high others.high)
          (near_sum c.hi (row j).lo _ first.high second.low others.high) (near_sum c.hi (row j).hi _ first.high second.high others.high);
    }
