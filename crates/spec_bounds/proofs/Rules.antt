-- Bounds that are made by a rule include the enclosures that are made by it, where those of the operands do.
use Rattle.std.proofs.Common.{◌*◌, max, arith, ℤ, pos, ◌+ℤ◌, ◌≤ℤ◌, ◌<ℤ◌, unsigned_abs}
use Rattle.std.proofs.lemmas.Int.{ints}
use Rattle.spec_numbers.proofs.Naturals.{positive_product}
use Rattle.spec_numbers.proofs.Order.{lin}
use Rattle.spec_intervals.specs.Fraction.{Fraction, IsFraction, Holds, fraction, fraction_add, fraction_sub, fraction_mul, fraction_signed_square}
use Rattle.spec_intervals.specs.Interval.{Interval, product, sum, difference, zero_interval}
use Rattle.spec_intervals.specs.Enclosure.{Enclosure, IsEnclosure, PartsHold, AllFractions, change, middle, enclosure, twice_size, constant_of, sum_of, difference_of, product_of, signed_square_of}
use Rattle.spec_intervals.proofs.Narrow.{Holds-narrow}
use Rattle.spec_intervals.proofs.Products.{Holds-product}
use Rattle.spec_intervals.proofs.Centred.{IsFraction-sub, middle_between}
use Rattle.spec_intervals.proofs.Enclosed.{AllFractions-two, PartsHold-constant, PartsHold-sum, PartsHold-difference, PartsHold-product, PartsHold-signed_square, IsEnclosure-parts}
use Rattle.spec_models.specs.Inclusion.{Includes}
use Rattle.spec_models.specs.Bounds.{Bound, IncludesEnclosure, bound, coarse_sum, coarse_difference, constant_bound, sum_bound, difference_bound, product_bound, signed_square_bound}
use Rattle.spec_models.proofs.Inclusions.{Includes-refl, Includes-product, Includes-sum, Includes-difference, Includes-signed_square, Includes-twice_size, holds_ordered, IncludesEnclosure-parts}

-- over the times from a to b, some values are numbers, and the enclosure of them is included by a bound
pub record IsIncluded (f : ℤ → Fraction) (a b : ℤ) (p : Bound) (x : Enclosure) : Type 0 where
  pub numbers : AllFractions f a b
  pub enclosed : IsEnclosure f a b x
  pub included : IncludesEnclosure p x

-- ---- ends in order, as those of an interval that holds a number are
abbrev pub IsInOrder : Interval → Type 0
IsInOrder x = x.lo ≤ℤ x.hi

-- twice a size is held from 0 on
twice_size-in_order : (x : Interval) → IsInOrder (twice_size x)
unfolding twice_size
twice_size-in_order x =
    holds_ordered _ (fraction (pos 0) 1) (omega arith)
    (Holds-narrow (pos 0) (pos (2 * max (unsigned_abs x.lo) (unsigned_abs x.hi))) x.s (fraction (pos 0) 1) (omega (arith, ints)) (omega (arith, ints)))

-- of every part of an enclosure
pub record AreInOrder (x : Enclosure) : Type 0 where
  pub mid : IsInOrder x.mid
  pub range : IsInOrder x.range
  pub step : IsInOrder x.step

module _ (a b : ℤ) (ab : a <ℤ b) where
  ordered : a ≤ℤ b
  ordered = omega (arith, lin)

  IsFraction-change : (f : ℤ → Fraction) → AllFractions f a b → IsFraction (change f a)
  IsFraction-change f fs =
      IsFraction-sub (f (a +ℤ pos 1)) (f a) (fs (a +ℤ pos 1) (omega (arith, lin)) (omega (arith, lin))) (fs a (omega (arith, lin)) (omega (arith, lin)))

  pub enclosures_in_order : (f : ℤ → Fraction) (x : Enclosure) → AllFractions f a b → IsEnclosure f a b x → AreInOrder x
  enclosures_in_order f x fs is =
      let between = middle_between a b ordered in
      record {
        mid = holds_ordered x.mid (f (middle a b)) (fs (middle a b) between.0 between.1) is.mid;
        range = holds_ordered x.range (f a) (fs a (omega (arith, lin)) (omega (arith, lin))) (is.range a (omega (arith, lin)) (omega (arith, lin)));
        step = holds_ordered x.step (change f a) (IsFraction-change f fs) (is.step a (omega (arith, lin)) (omega (arith, lin)));
      }

  -- the range of the one times the step of the other, as in the step of a product
  product_in_order : (f g : ℤ → Fraction) (x y : Enclosure) → AllFractions f a b → AllFractions g a b
      → IsEnclosure f a b x → IsEnclosure g a b y → IsInOrder (product x.range y.step)
  product_in_order f g x y fs gs hx hy =
      holds_ordered (product x.range y.step) (fraction_mul (f a) (change g a))
      (positive_product _ _ (fs a (omega (arith, lin)) (omega (arith, lin))) (IsFraction-change g gs))
      (Holds-product x.range y.step (f a) (change g a) (hx.range a (omega (arith, lin)) (omega (arith, lin))) (hy.step a (omega (arith, lin)) (omega (arith, lin))))

-- ---- the rules, over the times from a to b within those from c to d
module _ (a b c d : ℤ) (ca : c ≤ℤ a) (ab : a <ℤ b) (bd : b ≤ℤ d) where
  -- an enclosure is included by a bound of what it is made of
  pub parts_included : (h : ℤ → Fraction) → AllFractions h a b → (mid plain step range change : Interval) → PartsHold h a b mid plain step
      → Includes range mid → Includes range plain → Includes change step → IsIncluded h a b (bound c d range change) (enclosure a b mid plain step)
  parts_included h numbers mid plain step range change parts mid_in plain_in step_in = record {
    numbers = numbers;
    enclosed = IsEnclosure-parts h a b numbers (ordered a b ab) mid plain step parts;
    included = IncludesEnclosure-parts h a b c d ca ab bd numbers mid plain step range change parts mid_in plain_in step_in;
  }

  pub constant_included : (r : Fraction) (x : Interval) → IsFraction r → Holds x r → IsIncluded (λ t. r) a b (constant_bound c d x) (constant_of a b x)
  unfolding constant_of
  constant_included r x is held =
      parts_included (λ t. r) (λ t p q. is) x x zero_interval x zero_interval (PartsHold-constant a b r x held)
      (Includes-refl x) (Includes-refl x) (Includes-refl zero_interval)

  -- of two operands
  module _ (f g : ℤ → Fraction) (p q : Bound) (x y : Enclosure) (first : IsIncluded f a b p x) (second : IsIncluded g a b q y) where
    of_first : AreInOrder x
    of_first = enclosures_in_order a b ab f x first.numbers first.enclosed

    of_second : AreInOrder y
    of_second = enclosures_in_order a b ab g y second.numbers second.enclosed

    numbers_of_both : AllFractions (λ t. fraction_mul (f t) (g t)) a b
    numbers_of_both = AllFractions-two a b (ordered a b ab) f g first.numbers second.numbers

    -- each part made of those of the operands by an operation that keeps inclusion
    module _ (made made_outer : Interval → Interval → Interval)
        (keeps : (p q x y : Interval) → IsInOrder x → IsInOrder y → Includes p x → Includes q y → Includes (made_outer p q) (made x y)) where
      all_included : (h : ℤ → Fraction) → AllFractions h a b → PartsHold h a b (made x.mid y.mid) (made x.range y.range) (made x.step y.step)
          → IsIncluded h a b (bound c d (made_outer p.range q.range) (made_outer p.step q.step)) (enclosure a b (made x.mid y.mid) (made x.range y.range) (made x.step y.step))
      all_included h numbers parts =
          parts_included h numbers _ _ _ _ _ parts
          (keeps p.range q.range x.mid y.mid of_first.mid of_second.mid first.included.mid second.included.mid)
          (keeps p.range q.range x.range y.range of_first.range of_second.range first.included.range second.included.range)
          (keeps p.step q.step x.step y.step of_first.step of_second.step first.included.step second.included.step)

    pub sum_included : IsIncluded (λ t. fraction_add (f t) (g t)) a b (sum_bound c d p q) (sum_of a b x y)
    unfolding sum_of
    sum_included =
        all_included sum coarse_sum Includes-sum (λ t. fraction_add (f t) (g t)) numbers_of_both
        (PartsHold-sum a b (ordered a b ab) f g first.numbers second.numbers x y first.enclosed second.enclosed)

    pub difference_included : IsIncluded (λ t. fraction_sub (f t) (g t)) a b (difference_bound c d p q) (difference_of a b x y)
    unfolding difference_of
    difference_included =
        all_included difference coarse_difference Includes-difference (λ t. fraction_sub (f t) (g t)) numbers_of_both
        (PartsHold-difference a b (ordered a b ab) f g first.numbers second.numbers x y first.enclosed second.enclosed)

    -- the step of a product is the sum of two products
    product_step-included : Includes (coarse_sum (product p.range q.step) (product q.range p.step)) (sum (product x.range y.step) (product y.range x.step))
    product_step-included =
        Includes-sum (product p.range q.step) (product q.range p.step) (product x.range y.step) (product y.range x.step)
        (product_in_order a b ab f g x y first.numbers second.numbers first.enclosed second.enclosed)
        (product_in_order a b ab g f y x second.numbers first.numbers second.enclosed first.enclosed)
        (Includes-product p.range q.step x.range y.step of_first.range of_second.step first.included.range second.included.step)
        (Includes-product q.range p.step y.range x.step of_second.range of_first.step second.included.range first.included.step)

    pub product_included : IsIncluded (λ t. fraction_mul (f t) (g t)) a b (product_bound c d p q) (product_of a b x y)
    unfolding product_of
    product_included =
        parts_included (λ t. fraction_mul (f t) (g t)) numbers_of_both _ _ _ _ _
        (PartsHold-product a b (ordered a b ab) f g first.numbers second.numbers x y first.enclosed second.enclosed)
        (Includes-product p.range q.range x.mid y.mid of_first.mid of_second.mid first.included.mid second.included.mid)
        (Includes-product p.range q.range x.range y.range of_first.range of_second.range first.included.range second.included.range)
        product_step-included

  -- of one operand
  module _ (f : ℤ → Fraction) (p : Bound) (x : Enclosure) (operand : IsIncluded f a b p x) where
    of_operand : AreInOrder x
    of_operand = enclosures_in_order a b ab f x operand.numbers operand.enclosed

    numbers_of_square : AllFractions (λ t. fraction_signed_square (f t)) a b
    numbers_of_square = AllFractions-two a b (ordered a b ab) f f operand.numbers operand.numbers

    pub signed_square_included : IsIncluded (λ t. fraction_signed_square (f t)) a b (signed_square_bound c d p) (signed_square_of a b x)
    unfolding signed_square_of
    signed_square_included =
        parts_included (λ t. fraction_signed_square (f t)) numbers_of_square _ _ _ _ _
        (PartsHold-signed_square a b (ordered a b ab) f operand.numbers x operand.enclosed)
        (Includes-signed_square p.range x.mid of_operand.mid operand.included.mid)
        (Includes-signed_square p.range x.range of_operand.range operand.included.range)
        (Includes-product (twice_size p.range) p.step (twice_size x.range) x.step (twice_size-in_order x.range) of_operand.step
        (Includes-twice_size p.range x.range of_operand.range operand.included.range) operand.included.step)
