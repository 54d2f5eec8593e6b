-- At one time an enclosure is its mid alone, and a bound that is made of parts that include the mids includes it.
use Rattle.std.proofs.Common.{◌≡◌, refl, arith, ℤ, pos, ◌-ℤ◌, ◌≤ℤ◌, Bool, true, false}
use Rattle.std.specs.Prelude.{if◌then◌else◌}
use lib.Signed.{lt_z}
use Rattle.spec_numbers.proofs.Naturals.{positive_product}
use Rattle.spec_numbers.proofs.Order.{lin}
use Rattle.spec_intervals.specs.Fraction.{Fraction, IsFraction, Holds, fraction_mul, fraction_signed_square}
use Rattle.spec_intervals.specs.Interval.{Interval, lift_limit, meet, product, sum, difference, signed_square, zero_interval}
use Rattle.spec_intervals.specs.Enclosure.{Enclosure, triple, centred, enclosure, constant_of, sum_of, difference_of, product_of, signed_square_of}
use Rattle.spec_intervals.proofs.Products.{Holds-product}
use Rattle.spec_intervals.proofs.Rules.{Holds-difference}
use Rattle.spec_intervals.proofs.Squares.{Holds-signed_square}
use Rattle.spec_intervals.proofs.Sums.{Holds-sum}
use Rattle.spec_models.specs.Inclusion.{Includes}
use Rattle.spec_models.specs.Bounds.{Bound, coarsened, reached, bound, coarse_sum, coarse_difference, constant_bound, sum_bound, difference_bound, product_bound, signed_square_bound}
use Rattle.spec_models.proofs.Inclusions.{Includes-coarsened, Includes-refl, Includes-product, Includes-sum, Includes-difference, Includes-signed_square, holds_ordered}

-- a range includes a mid, which holds some number and is the range of its enclosure
pub record IsIncludedAtTime (range : Interval) (x : Enclosure) : Type 0 where
  pub value : Fraction
  pub number : IsFraction value
  pub held : Holds x.mid value
  pub mid : Includes range x.mid
  pub single : x.range ≡ x.mid

-- the time t of the span from c to d
module _ (c d t : ℤ) where
  module _ (range change mid plain step : Interval) (value : Fraction) (number : IsFraction value) (held : Holds mid value)
      (included : Includes range mid) where
    pub parts_included : IsIncludedAtTime (bound c d range change).range (enclosure t t mid plain step)
    unfolding bound enclosure
    parts_included = by (lt_z t t) refl
      where
        by : (later : Bool) → lt_z t t ≡ later
            → IsIncludedAtTime
            (coarsened ((reached c d range change).s -ℤ pos lift_limit) range)
            (if later then triple mid (meet plain (centred t t mid step)) step else triple mid mid zero_interval)
        by true e = absurd (omega (arith, lin))
        by false e = record {
          value = value;
          number = number;
          held = held;
          mid = Includes-coarsened _ range mid (holds_ordered mid value number held) included;
          single = refl;
        }

  -- ---- the rules
  pub constant_at_time : (value : Fraction) (x : Interval) → IsFraction value → Holds x value
      → IsIncludedAtTime (constant_bound c d x).range (constant_of t t x)
  unfolding constant_of
  constant_at_time value x number held = parts_included x zero_interval x x zero_interval value number held (Includes-refl x)

  -- of two operands
  module _ (p q : Bound) (x y : Enclosure) (first : IsIncludedAtTime p.range x) (second : IsIncludedAtTime q.range y) where
    first_ordered : x.mid.lo ≤ℤ x.mid.hi
    first_ordered = holds_ordered x.mid first.value first.number first.held

    second_ordered : y.mid.lo ≤ℤ y.mid.hi
    second_ordered = holds_ordered y.mid second.value second.number second.held

    both : IsFraction (fraction_mul first.value second.value)
    both = positive_product _ _ first.number second.number

    -- made of the mids by an operation that keeps inclusion
    made_at_time : (made made_outer : Interval → Interval → Interval) (value : Fraction) (change plain step : Interval)
        → ((p q x y : Interval) → x.lo ≤ℤ x.hi → y.lo ≤ℤ y.hi → Includes p x → Includes q y → Includes (made_outer p q) (made x y))
        → IsFraction value → Holds (made x.mid y.mid) value
        → IsIncludedAtTime (bound c d (made_outer p.range q.range) change).range (enclosure t t (made x.mid y.mid) plain step)
    made_at_time made made_outer value change plain step keeps number held =
        parts_included _ change _ plain step value number held (keeps p.range q.range x.mid y.mid first_ordered second_ordered first.mid second.mid)

    pub sum_at_time : IsIncludedAtTime (sum_bound c d p q).range (sum_of t t x y)
    unfolding sum_of
    sum_at_time = made_at_time sum coarse_sum _ _ _ _ Includes-sum both (Holds-sum x.mid y.mid first.value second.value first.held second.held)

    pub difference_at_time : IsIncludedAtTime (difference_bound c d p q).range (difference_of t t x y)
    unfolding difference_of
    difference_at_time =
        made_at_time difference coarse_difference _ _ _ _ Includes-difference both
        (Holds-difference x.mid y.mid first.value second.value first.held second.held)

    pub product_at_time : IsIncludedAtTime (product_bound c d p q).range (product_of t t x y)
    unfolding product_of
    product_at_time =
        made_at_time product product _ _ _ _ Includes-product both (Holds-product x.mid y.mid first.value second.value first.held second.held)

  pub signed_square_at_time : (p : Bound) (x : Enclosure) → IsIncludedAtTime p.range x
      → IsIncludedAtTime (signed_square_bound c d p).range (signed_square_of t t x)
  unfolding signed_square_of
  signed_square_at_time p x operand =
      parts_included (signed_square p.range) _ (signed_square x.mid) _ _ (fraction_signed_square operand.value)
      (positive_product _ _ operand.number operand.number)
      (Holds-signed_square x.mid operand.value operand.held)
      (Includes-signed_square p.range x.mid (holds_ordered x.mid operand.value operand.number operand.held) operand.mid)
