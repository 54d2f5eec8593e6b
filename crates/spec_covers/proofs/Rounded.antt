-- What a rule of intervals makes of ends is near a model, where the exact number is, and the model is widened for what is lost.
use Rattle.std.proofs.Common.{ℕ, ◌*◌, ◌^◌, ◌<◌, arith, sym, subst, [], ◌∷◌, ℤ, pos, ◌*ℤ◌, ◌≤ℤ◌}
use Rattle.std.proofs.lemmas.Nat.{pow_pos}
use borrow.Author.Differences.{up, down}
use Rattle.spec_numbers.proofs.Naturals.{positive_product}
use Rattle.spec_numbers.proofs.Ring.{v, k as lit, ◌⊗◌, ring}
use Rattle.spec_numbers.proofs.Order.{lin, le-mul, natural}
use Rattle.spec_intervals.specs.Fraction.{Fraction, IsFraction, fraction_add, fraction_sub, fraction_mul, fraction_signed_square, fraction_scale}
use Rattle.spec_intervals.specs.Interval.{Interval, interval, narrow, sum, difference, product, signed_square, scale}
use Rattle.spec_chebyshev.specs.Differences.{IsArgument}
use Rattle.spec_models.specs.Ends.{NoMore, in_units, low, high, size, greatest_end, slight, scale_loss, Under, Over, IsCorner, low_low, low_high, high_low, high_high}
use Rattle.spec_models.proofs.NarrowedRoundings.{narrowed_under, narrowed_over}
use Rattle.spec_models.proofs.ProductRoundings.{product_corner_under, product_corner_over, square_under, square_over}
use Rattle.spec_models.proofs.SumRoundings.{sum_under, sum_over, difference_under, difference_over}
use Rattle.spec_models.proofs.Scaling.{scale_under, scale_over}
use Rattle.spec_models.proofs.Ordered.{no_more_trans, add_no_more, slight_no_more, slight_is_fraction}
use Rattle.spec_models.specs.Models.{Model, IsNear, Covers, bulk, widened}
use Rattle.spec_covers.specs.Combining.{AddsTo, SubtractsTo, MultipliesTo, SquaresTo, ScalesTo, greatest, IsUpto, IsEnough, scaled_loss}
use Rattle.spec_covers.proofs.Fractions.{products_in_order}
use Rattle.spec_models.proofs.Between.{near-under, near-over}
use Rattle.spec_covers.proofs.Near.{covered_size}

-- denominators that are powers of 2, and products of two
pub end_number : (s : ℤ) → 0 < 2 ^ down s
end_number s = pow_pos (down s)

both_number : (s t : ℤ) → 0 < 2 ^ down s * 2 ^ down t
both_number s t = positive_product (2 ^ down s) (2 ^ down t) (pow_pos (down s)) (pow_pos (down t))

-- what may be lost of numbers up to some bound is enough for what is lost of smaller ones
enough_for : (d : ℕ) (k : Model) (r bound : Fraction) → IsFraction bound → NoMore r bound → IsEnough d k bound → IsUpto d k (slight r)
enough_for d k r bound number h enough = no_more_trans (slight r) (slight bound) (in_units (pos d) k.exponent) (slight_is_fraction bound number) (slight_no_more r bound h) enough

-- ---- sizes, which are not negative
scaled_nonneg : (m n : ℕ) → pos 0 ≤ℤ (pos m *ℤ pos n)
scaled_nonneg m n = natural (m * n)

module _ (d : ℕ) (p q : ℤ) (is : IsArgument p q) where
  -- ---- of two operands
  module _ (m n : Model) (x y : Interval) (first : Covers m p q x) (second : Covers n p q y) where
    sum_size : NoMore (fraction_add (size x) (size y)) (fraction_add (greatest m) (greatest n))
    sum_size = add_no_more (size x) (greatest m) (size y) (greatest n) (covered_size m p q is x first) (covered_size n p q is y second)

    product_size : NoMore (fraction_mul (size x) (size y)) (fraction_mul (greatest m) (greatest n))
    product_size =
        products_in_order (size x) (greatest m) (size y) (greatest n)
        (scaled_nonneg (bulk m) (2 ^ up m.exponent)) (scaled_nonneg _ (2 ^ up y.s)) (covered_size m p q is x first) (covered_size n p q is y second)

    module _ (k : Model) (bound : Fraction) (number : IsFraction bound) (loss : Fraction) (loss_number : IsFraction loss) (less : NoMore loss bound)
        (enough : IsEnough d k bound) where
      rounded_down : (r : Fraction) (z s : ℤ) → IsNear k p q r → Under (slight loss) (in_units z s) r → IsNear (widened d k) p q (in_units z s)
      rounded_down r z s near under = near-under k p q d r (in_units z s) (slight loss) is (end_number s) (slight_is_fraction loss loss_number) (enough_for d k loss bound number less enough) under near

      rounded_up : (r : Fraction) (z s : ℤ) → IsNear k p q r → Over (slight loss) (in_units z s) r → IsNear (widened d k) p q (in_units z s)
      rounded_up r z s near over = near-over k p q d r (in_units z s) (slight loss) is (end_number s) (slight_is_fraction loss loss_number) (enough_for d k loss bound number less enough) over near

    pub Covers-product : (k : Model) → MultipliesTo m n k → IsEnough d k (fraction_mul (greatest m) (greatest n)) → Covers (widened d k) p q (product x y)
    Covers-product k multiplies enough =
        let under = product_corner_under x y in
        let over = product_corner_over x y in
        record {
          low = rounded_down k (fraction_mul (greatest m) (greatest n)) (both_number m.exponent n.exponent) (fraction_mul (size x) (size y)) (both_number x.s y.s) product_size enough under.corner (product x y).lo (product x y).s (corner under.corner under.is_corner) under.under;
          high = rounded_up k (fraction_mul (greatest m) (greatest n)) (both_number m.exponent n.exponent) (fraction_mul (size x) (size y)) (both_number x.s y.s) product_size enough over.corner (product x y).hi (product x y).s (corner over.corner over.is_corner) over.over;
        }
      where
        corner : (r : Fraction) → IsCorner x y r → IsNear k p q r
        corner r (low_low e) = subst (IsNear k p q) (sym e) (multiplies p q (low x) (low y) is first.low second.low)
        corner r (low_high e) = subst (IsNear k p q) (sym e) (multiplies p q (low x) (high y) is first.low second.high)
        corner r (high_low e) = subst (IsNear k p q) (sym e) (multiplies p q (high x) (low y) is first.high second.low)
        corner r (high_high e) = subst (IsNear k p q) (sym e) (multiplies p q (high x) (high y) is first.high second.high)

    -- an end of a sum of numbers that are near
    pub Covers-sum : (k : Model) → AddsTo m n k → IsEnough d k (fraction_add (greatest m) (greatest n))
        → Covers (widened d k) p q (sum x y)
    Covers-sum k adds enough = record {
      low = rounded_down k (fraction_add (greatest m) (greatest n)) (both_number m.exponent n.exponent) (fraction_add (size x) (size y)) (both_number x.s y.s) sum_size enough (fraction_add (low x) (low y)) (sum x y).lo (sum x y).s (adds p q (low x) (low y) is first.low second.low) (sum_under x y);
      high = rounded_up k (fraction_add (greatest m) (greatest n)) (both_number m.exponent n.exponent) (fraction_add (size x) (size y)) (both_number x.s y.s) sum_size enough (fraction_add (high x) (high y)) (sum x y).hi (sum x y).s (adds p q (high x) (high y) is first.high second.high) (sum_over x y);
    }

    pub Covers-difference : (k : Model) → SubtractsTo m n k → IsEnough d k (fraction_add (greatest m) (greatest n))
        → Covers (widened d k) p q (difference x y)
    Covers-difference k subtracts enough = record {
      low = rounded_down k (fraction_add (greatest m) (greatest n)) (both_number m.exponent n.exponent) (fraction_add (size x) (size y)) (both_number x.s y.s) sum_size enough (fraction_sub (low x) (high y)) (difference x y).lo (difference x y).s (subtracts p q (low x) (high y) is first.low second.high) (difference_under x y);
      high = rounded_up k (fraction_add (greatest m) (greatest n)) (both_number m.exponent n.exponent) (fraction_add (size x) (size y)) (both_number x.s y.s) sum_size enough (fraction_sub (high x) (low y)) (difference x y).hi (difference x y).s (subtracts p q (high x) (low y) is first.high second.low) (difference_over x y);
    }

  -- ---- of one operand
  pub Covers-signed_square : (m k : Model) (x : Interval) → Covers m p q x → SquaresTo m k → IsEnough d k (fraction_mul (greatest m) (greatest m))
      → Covers (widened d k) p q (signed_square x)
  Covers-signed_square m k x covers squares enough =
      let loss_number = positive_product (2 ^ down x.s) (2 ^ down x.s) (pow_pos (down x.s)) (pow_pos (down x.s)) in
      let bound_number = positive_product (2 ^ down m.exponent) (2 ^ down m.exponent) (pow_pos (down m.exponent)) (pow_pos (down m.exponent)) in
      let less = product_size m m x x covers covers in
      let upto = enough_for d k (fraction_mul (size x) (size x)) (fraction_mul (greatest m) (greatest m)) bound_number less enough in
      let number = slight_is_fraction (fraction_mul (size x) (size x)) loss_number in
      record {
        low = near-under k p q d (fraction_signed_square (low x)) (low (signed_square x)) (slight (fraction_mul (size x) (size x))) is (end_number (signed_square x).s) number upto (square_under x) (squares p q (low x) is covers.low);
        high = near-over k p q d (fraction_signed_square (high x)) (high (signed_square x)) (slight (fraction_mul (size x) (size x))) is (end_number (signed_square x).s) number upto (square_over x) (squares p q (high x) is covers.high);
      }

  module _ (m : Model) (lo hi s : ℤ) (covers : Covers m p q (interval lo hi s)) where
    pub Covers-narrow : IsEnough d m (greatest m) → Covers (widened d m) p q (narrow lo hi s)
    Covers-narrow enough =
        let upto = enough_for d m (size (interval lo hi s)) (greatest m) (end_number m.exponent) (covered_size m p q is (interval lo hi s) covers) enough in
        let number = slight_is_fraction (size (interval lo hi s)) (end_number s) in
        record {
          low = near-under m p q d (low (interval lo hi s)) (low (narrow lo hi s)) (slight (size (interval lo hi s))) is (end_number (narrow lo hi s).s) number upto (narrowed_under lo hi s) covers.low;
          high = near-over m p q d (high (interval lo hi s)) (high (narrow lo hi s)) (slight (size (interval lo hi s))) is (end_number (narrow lo hi s).s) number upto (narrowed_over lo hi s) covers.high;
        }

    -- two units, and what is lost of 2 / length times the size
    pub Covers-scale : (length : ℕ) (k : Model) → 0 < length → ScalesTo length m k
        → IsUpto d k (scaled_loss s m length)
        → Covers (widened d k) p q (scale lo hi s length)
    Covers-scale length k positive scales enough =
        let less = scales_in_order (size (interval lo hi s)) (greatest m) length (covered_size m p q is (interval lo hi s) covers) in
        let less_lost = add_no_more (in_units (pos 2) s) (in_units (pos 2) s) (slight (fraction_scale (size (interval lo hi s)) length)) (slight (fraction_scale (greatest m) length)) (omega (arith, lin)) (slight_no_more (fraction_scale (size (interval lo hi s)) length) (fraction_scale (greatest m) length) less) in
        let number = lost_number (pos (greatest_end (interval lo hi s))) s length positive in
        let bound_number = lost_number (pos (bulk m)) m.exponent length positive in
        let upto = no_more_trans (scale_loss lo hi s length) (fraction_add (in_units (pos 2) s) (slight (fraction_scale (greatest m) length))) (in_units (pos d) k.exponent) bound_number less_lost enough in
        record {
          low = near-under k p q d (fraction_scale (low (interval lo hi s)) length) (low (scale lo hi s length)) (scale_loss lo hi s length) is (end_number (scale lo hi s length).s) number upto (scale_under lo hi s length positive) (scales p q (low (interval lo hi s)) is covers.low);
          high = near-over k p q d (fraction_scale (high (interval lo hi s)) length) (high (scale lo hi s length)) (scale_loss lo hi s length) is (end_number (scale lo hi s length).s) number upto (scale_over lo hi s length positive) (scales p q (high (interval lo hi s)) is covers.high);
        }
      where
        scales_in_order : (a b : Fraction) (length : ℕ) → NoMore a b → NoMore (fraction_scale a length) (fraction_scale b length)
        scales_in_order a b length h =
            let p = le-mul (a.numerator *ℤ pos b.denominator) (b.numerator *ℤ pos a.denominator) (pos (2 * length)) (natural (2 * length)) h in
            let e = ring (a.numerator ∷ pos b.denominator ∷ pos length ∷ []) (lit (pos 2) ⊗ v 0 ⊗ (v 1 ⊗ v 2)) (v 0 ⊗ v 1 ⊗ (lit (pos 2) ⊗ v 2)) tt in
            let f = ring (b.numerator ∷ pos a.denominator ∷ pos length ∷ []) (lit (pos 2) ⊗ v 0 ⊗ (v 1 ⊗ v 2)) (v 0 ⊗ v 1 ⊗ (lit (pos 2) ⊗ v 2)) tt in
            omega (arith, lin)

        lost_number : (z t : ℤ) (length : ℕ) → 0 < length → IsFraction (fraction_add (in_units (pos 2) s) (slight (fraction_scale (in_units z t) length)))
        lost_number z t length positive =
            positive_product (2 ^ down s) (2 ^ down t * length * 2 ^ 58) (pow_pos (down s))
            (positive_product (2 ^ down t * length) (2 ^ 58) (positive_product (2 ^ down t) length (pow_pos (down t)) positive) (pow_pos 58))
