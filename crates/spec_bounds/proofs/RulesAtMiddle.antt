-- Each rule makes the mid of an enclosure of the mids of its operands alone, and at one time the range is the mid. So an
-- enclosure at one time that is made of the same mids as one over a span has the mid of that one for its range.
use Rattle.std.proofs.Common.{◌≡◌, refl, sym, ap, ◌∙◌, arith, ℤ, Bool, true, false}
use Rattle.std.specs.Prelude.{if◌then◌else◌}
use lib.Signed.{lt_z}
use Rattle.spec_numbers.proofs.Order.{lin}
use Rattle.spec_intervals.specs.Interval.{Interval, meet, product, sum, difference, signed_square, zero_interval}
use Rattle.spec_intervals.specs.Enclosure.{Enclosure, triple, centred, enclosure, constant_of, sum_of, difference_of, product_of, signed_square_of}
use Rattle.spec_intervals.proofs.Enclosed.{mid-of}

-- an enclosure at one time has the mid of x for its mid, and for its range
pub record IsMidOf (x at_time : Enclosure) : Type 0 where
  pub same : x.mid ≡ at_time.mid
  pub single : at_time.range ≡ at_time.mid

-- at one time the range is the mid that it is made of
range_given : (t : ℤ) (mid plain step : Interval) → (enclosure t t mid plain step).range ≡ mid
unfolding enclosure
range_given t mid plain step = by (lt_z t t) refl
  where
    by : (later : Bool) → lt_z t t ≡ later
        → (if later then triple mid (meet plain (centred t t mid step)) step else triple mid mid zero_interval).range ≡ mid
    by true e = absurd (omega (arith, lin))
    by false e = refl

-- the times from a to b, and one time
module _ (a b t : ℤ) where
  pub parts_at_middle : (mid plain step mid_then plain_then step_then : Interval) → mid ≡ mid_then
      → IsMidOf (enclosure a b mid plain step) (enclosure t t mid_then plain_then step_then)
  parts_at_middle mid plain step mid_then plain_then step_then same = record {
    same = mid-of a b mid plain step ∙ same ∙ sym (mid-of t t mid_then plain_then step_then);
    single = range_given t mid_then plain_then step_then ∙ sym (mid-of t t mid_then plain_then step_then);
  }

  -- ---- the rules
  pub constant_at_middle : (c : Interval) → IsMidOf (constant_of a b c) (constant_of t t c)
  unfolding constant_of
  constant_at_middle c = parts_at_middle c _ _ c _ _ refl

  -- of two operands
  module _ (x y p q : Enclosure) (first : IsMidOf x p) (second : IsMidOf y q) where
    pub sum_at_middle : IsMidOf (sum_of a b x y) (sum_of t t p q)
    unfolding sum_of
    sum_at_middle = parts_at_middle (sum x.mid y.mid) _ _ (sum p.mid q.mid) _ _ (λ i. sum (first.same i) (second.same i))

    pub difference_at_middle : IsMidOf (difference_of a b x y) (difference_of t t p q)
    unfolding difference_of
    difference_at_middle =
        parts_at_middle (difference x.mid y.mid) _ _ (difference p.mid q.mid) _ _ (λ i. difference (first.same i) (second.same i))

    pub product_at_middle : IsMidOf (product_of a b x y) (product_of t t p q)
    unfolding product_of
    product_at_middle =
        parts_at_middle (product x.mid y.mid) _ _ (product p.mid q.mid) _ _ (λ i. product (first.same i) (second.same i))

  pub signed_square_at_middle : (x p : Enclosure) → IsMidOf x p → IsMidOf (signed_square_of a b x) (signed_square_of t t p)
  unfolding signed_square_of
  signed_square_at_middle x p operand =
      parts_at_middle (signed_square x.mid) _ _ (signed_square p.mid) _ _ (ap signed_square operand.same)
