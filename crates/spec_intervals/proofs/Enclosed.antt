-- The enclosure of an expression holds its exact value: mid, range and step, by one induction.
use Rattle.std.proofs.Common.{◌≡◌, arith, refl, subst, [], ◌∷◌, ℤ, pos, ◌+ℤ◌, ◌*ℤ◌, ◌≤ℤ◌, ◌<ℤ◌, Bool, true, false}
use Rattle.std.specs.Prelude.{if◌then◌else◌}
use lib.Signed.{lt_z}
use Rattle.spec_numbers.proofs.Ring.{v, ◌⊕◌, ◌⊖◌, ◌⊗◌, ring}
use Rattle.spec_numbers.proofs.Order.{lin}
use Rattle.spec_intervals.proofs.Products.{Holds-product}
use Rattle.spec_intervals.proofs.Rules.{Holds-difference, Holds-meet}
use Rattle.spec_intervals.proofs.Squares.{Holds-signed_square}
use Rattle.spec_intervals.proofs.Sums.{Holds-sum}
use Rattle.spec_intervals.specs.Fraction.{Fraction, IsFraction, Holds, Overlaps, fraction_add, fraction_sub, fraction_mul, fraction_signed_square}
use Rattle.spec_intervals.specs.Interval.{Interval, product, sum, difference, meet, signed_square, zero_interval}
use Rattle.spec_intervals.specs.Enclosure.{Enclosure, IsEnclosure, PartsHold, AllFractions, middle, triple, centred, enclosure, twice_size, constant_of, sum_of, difference_of, product_of, signed_square_of}
use Rattle.spec_intervals.proofs.Compare.{Holds-same, Holds-zero}
use Rattle.spec_numbers.proofs.Naturals.{positive_product}
use Rattle.spec_intervals.proofs.SquareChanges.{Holds-square_step}
use Rattle.spec_intervals.proofs.Centred.{IsFraction-sub, itself, middle_between, Holds-centred}

-- ---- an enclosure from its parts
-- its mid is the one that it is made of
pub mid-of : (a b : ℤ) (mid plain step : Interval) → (enclosure a b mid plain step).mid ≡ mid
unfolding enclosure
mid-of a b mid plain step = by (lt_z a b)
  where
    by : (c : Bool) → (if c then triple mid (meet plain (centred a b mid step)) step else triple mid mid zero_interval).mid ≡ mid
    by true = refl
    by false = refl

module _ (f : ℤ → Fraction) (a b : ℤ) (fs : AllFractions f a b) (h : a ≤ℤ b) (mid plain step : Interval) (parts : PartsHold f a b mid plain step) where
  pub IsEnclosure-parts : IsEnclosure f a b (enclosure a b mid plain step)
  unfolding enclosure
  IsEnclosure-parts = by (lt_z a b) refl
    where
      by : (c : Bool) → lt_z a b ≡ c → IsEnclosure f a b (if c then record { mid = mid; range = meet plain (centred a b mid step); step = step } else record { mid = mid; range = mid; step = zero_interval })
      by true e = record { mid = parts.mid; range = λ t p q. Holds-meet plain (centred a b mid step) (f t) (parts.plain t p q) (Holds-centred f a b fs h mid step parts.mid parts.step t p q); step = parts.step }
      by false e =
          let w = middle_between a b h in
          record { mid = parts.mid; range = λ t p q. subst (λ x. Holds mid (f x)) (same_place t p q w.0 w.1) parts.mid; step = λ t p q. absurd (omega (arith, lin)) }
        where
          same_place : (t : ℤ) → a ≤ℤ t → t ≤ℤ b → a ≤ℤ middle a b → middle a b ≤ℤ b → middle a b ≡ t
          same_place t p q i j = omega (arith, lin)

  -- the value in the middle lies in both ranges
  pub Overlaps-parts : Overlaps plain (centred a b mid step)
  Overlaps-parts =
      let w = middle_between a b h in
      record { common = f (middle a b); is_fraction = fs (middle a b) w.0 w.1; in_first = parts.plain (middle a b) w.0 w.1; in_second = Holds-centred f a b fs h mid step parts.mid parts.step (middle a b) w.0 w.1 }

-- ---- changes of sums, differences and products
module _ (x x' y y' : Fraction) where
  sum_change : (fraction_add (fraction_sub x' x) (fraction_sub y' y)).numerator *ℤ pos (fraction_sub (fraction_add x' y') (fraction_add x y)).denominator ≡ (fraction_sub (fraction_add x' y') (fraction_add x y)).numerator *ℤ pos (fraction_add (fraction_sub x' x) (fraction_sub y' y)).denominator
  sum_change =
      ring (x.numerator ∷ x'.numerator ∷ y.numerator ∷ y'.numerator ∷ pos x.denominator ∷ pos x'.denominator ∷ pos y.denominator ∷ pos y'.denominator ∷ []) (((v 1 ⊗ v 4 ⊖ v 0 ⊗ v 5) ⊗ (v 7 ⊗ v 6) ⊕ (v 3 ⊗ v 6 ⊖ v 2 ⊗ v 7) ⊗ (v 5 ⊗ v 4)) ⊗ ((v 5 ⊗ v 7) ⊗ (v 4 ⊗ v 6))) (((v 1 ⊗ v 7 ⊕ v 3 ⊗ v 5) ⊗ (v 4 ⊗ v 6) ⊖ (v 0 ⊗ v 6 ⊕ v 2 ⊗ v 4) ⊗ (v 5 ⊗ v 7)) ⊗ ((v 5 ⊗ v 4) ⊗ (v 7 ⊗ v 6))) tt

  difference_change : (fraction_sub (fraction_sub x' x) (fraction_sub y' y)).numerator *ℤ pos (fraction_sub (fraction_sub x' y') (fraction_sub x y)).denominator ≡ (fraction_sub (fraction_sub x' y') (fraction_sub x y)).numerator *ℤ pos (fraction_sub (fraction_sub x' x) (fraction_sub y' y)).denominator
  difference_change =
      ring (x.numerator ∷ x'.numerator ∷ y.numerator ∷ y'.numerator ∷ pos x.denominator ∷ pos x'.denominator ∷ pos y.denominator ∷ pos y'.denominator ∷ []) (((v 1 ⊗ v 4 ⊖ v 0 ⊗ v 5) ⊗ (v 7 ⊗ v 6) ⊖ (v 3 ⊗ v 6 ⊖ v 2 ⊗ v 7) ⊗ (v 5 ⊗ v 4)) ⊗ ((v 5 ⊗ v 7) ⊗ (v 4 ⊗ v 6))) (((v 1 ⊗ v 7 ⊖ v 3 ⊗ v 5) ⊗ (v 4 ⊗ v 6) ⊖ (v 0 ⊗ v 6 ⊖ v 2 ⊗ v 4) ⊗ (v 5 ⊗ v 7)) ⊗ ((v 5 ⊗ v 4) ⊗ (v 7 ⊗ v 6))) tt

  -- x' (y' - y) + y (x' - x)
  product_change : (fraction_add (fraction_mul x' (fraction_sub y' y)) (fraction_mul y (fraction_sub x' x))).numerator *ℤ pos (fraction_sub (fraction_mul x' y') (fraction_mul x y)).denominator ≡ (fraction_sub (fraction_mul x' y') (fraction_mul x y)).numerator *ℤ pos (fraction_add (fraction_mul x' (fraction_sub y' y)) (fraction_mul y (fraction_sub x' x))).denominator
  product_change =
      ring (x.numerator ∷ x'.numerator ∷ y.numerator ∷ y'.numerator ∷ pos x.denominator ∷ pos x'.denominator ∷ pos y.denominator ∷ pos y'.denominator ∷ []) (((v 1 ⊗ (v 3 ⊗ v 6 ⊖ v 2 ⊗ v 7)) ⊗ (v 6 ⊗ (v 5 ⊗ v 4)) ⊕ (v 2 ⊗ (v 1 ⊗ v 4 ⊖ v 0 ⊗ v 5)) ⊗ (v 5 ⊗ (v 7 ⊗ v 6))) ⊗ ((v 5 ⊗ v 7) ⊗ (v 4 ⊗ v 6))) (((v 1 ⊗ v 3) ⊗ (v 4 ⊗ v 6) ⊖ (v 0 ⊗ v 2) ⊗ (v 5 ⊗ v 7)) ⊗ ((v 5 ⊗ (v 7 ⊗ v 6)) ⊗ (v 6 ⊗ (v 5 ⊗ v 4)))) tt

  pub Holds-sum_step : (s t : Interval) → IsFraction x → IsFraction x' → IsFraction y → IsFraction y' → Holds s (fraction_sub x' x) → Holds t (fraction_sub y' y) → Holds (sum s t) (fraction_sub (fraction_add x' y') (fraction_add x y))
  Holds-sum_step s t p p' q q' h g =
      Holds-same (sum s t) (fraction_add (fraction_sub x' x) (fraction_sub y' y)) (fraction_sub (fraction_add x' y') (fraction_add x y)) (positive_product _ _ (IsFraction-sub x' x p' p) (IsFraction-sub y' y q' q)) sum_change (Holds-sum s t (fraction_sub x' x) (fraction_sub y' y) h g)

  pub Holds-difference_step : (s t : Interval) → IsFraction x → IsFraction x' → IsFraction y → IsFraction y' → Holds s (fraction_sub x' x) → Holds t (fraction_sub y' y) → Holds (difference s t) (fraction_sub (fraction_sub x' y') (fraction_sub x y))
  Holds-difference_step s t p p' q q' h g =
      Holds-same (difference s t) (fraction_sub (fraction_sub x' x) (fraction_sub y' y)) (fraction_sub (fraction_sub x' y') (fraction_sub x y)) (positive_product _ _ (IsFraction-sub x' x p' p) (IsFraction-sub y' y q' q)) difference_change (Holds-difference s t (fraction_sub x' x) (fraction_sub y' y) h g)

  pub Holds-product_step : (r s w z : Interval) → IsFraction x → IsFraction x' → IsFraction y → IsFraction y' → Holds r x' → Holds s y → Holds w (fraction_sub x' x) → Holds z (fraction_sub y' y) → Holds (sum (product r z) (product s w)) (fraction_sub (fraction_mul x' y') (fraction_mul x y))
  Holds-product_step r s w z p p' q q' hr hs hw hz =
      Holds-same (sum (product r z) (product s w)) (fraction_add (fraction_mul x' (fraction_sub y' y)) (fraction_mul y (fraction_sub x' x))) (fraction_sub (fraction_mul x' y') (fraction_mul x y)) (positive_product _ _ (positive_product _ _ p' (IsFraction-sub y' y q' q)) (positive_product _ _ q (IsFraction-sub x' x p' p))) product_change (Holds-sum (product r z) (product s w) (fraction_mul x' (fraction_sub y' y)) (fraction_mul y (fraction_sub x' x)) (Holds-product r z x' (fraction_sub y' y) hr hz) (Holds-product s w y (fraction_sub x' x) hs hw))

-- ---- the rules on enclosures
module _ (a b : ℤ) (ab : a ≤ℤ b) (f g : ℤ → Fraction) (fs : AllFractions f a b) (gs : AllFractions g a b) where
  pub AllFractions-two : AllFractions (λ t. fraction_mul (f t) (g t)) a b
  AllFractions-two t p q = positive_product _ _ (fs t p q) (gs t p q)

  here : (h : ℤ → Fraction) → AllFractions h a b → (t : ℤ) → a ≤ℤ t → t <ℤ b → IsFraction (h t)
  here h hs t p q = hs t p (omega (arith, lin))

  there : (h : ℤ → Fraction) → AllFractions h a b → (t : ℤ) → a ≤ℤ t → t <ℤ b → IsFraction (h (t +ℤ pos 1))
  there h hs t p q = hs (t +ℤ pos 1) (omega (arith, lin)) (omega (arith, lin))

  module _ (x y : Enclosure) (hx : IsEnclosure f a b x) (hy : IsEnclosure g a b y) where
    pub PartsHold-sum : PartsHold (λ t. fraction_add (f t) (g t)) a b (sum x.mid y.mid) (sum x.range y.range) (sum x.step y.step)
    PartsHold-sum =
        record { mid = Holds-sum x.mid y.mid _ _ hx.mid hy.mid; plain = λ t p q. Holds-sum x.range y.range (f t) (g t) (hx.range t p q) (hy.range t p q); step = λ t p q. Holds-sum_step (f t) (f (t +ℤ pos 1)) (g t) (g (t +ℤ pos 1)) x.step y.step (here f fs t p q) (there f fs t p q) (here g gs t p q) (there g gs t p q) (hx.step t p q) (hy.step t p q) }

    pub PartsHold-difference : PartsHold (λ t. fraction_sub (f t) (g t)) a b (difference x.mid y.mid) (difference x.range y.range) (difference x.step y.step)
    PartsHold-difference =
        record { mid = Holds-difference x.mid y.mid _ _ hx.mid hy.mid; plain = λ t p q. Holds-difference x.range y.range (f t) (g t) (hx.range t p q) (hy.range t p q); step = λ t p q. Holds-difference_step (f t) (f (t +ℤ pos 1)) (g t) (g (t +ℤ pos 1)) x.step y.step (here f fs t p q) (there f fs t p q) (here g gs t p q) (there g gs t p q) (hx.step t p q) (hy.step t p q) }

    pub PartsHold-product : PartsHold (λ t. fraction_mul (f t) (g t)) a b (product x.mid y.mid) (product x.range y.range) (sum (product x.range y.step) (product y.range x.step))
    PartsHold-product =
        record { mid = Holds-product x.mid y.mid _ _ hx.mid hy.mid; plain = λ t p q. Holds-product x.range y.range (f t) (g t) (hx.range t p q) (hy.range t p q); step = λ t p q. Holds-product_step (f t) (f (t +ℤ pos 1)) (g t) (g (t +ℤ pos 1)) x.range y.range x.step y.step (here f fs t p q) (there f fs t p q) (here g gs t p q) (there g gs t p q) (hx.range (t +ℤ pos 1) (omega (arith, lin)) (omega (arith, lin))) (hy.range t p (omega (arith, lin))) (hx.step t p q) (hy.step t p q) }

    pub IsEnclosure-sum : IsEnclosure (λ t. fraction_add (f t) (g t)) a b (sum_of a b x y)
    unfolding sum_of
    IsEnclosure-sum = IsEnclosure-parts (λ t. fraction_add (f t) (g t)) a b AllFractions-two ab (sum x.mid y.mid) (sum x.range y.range) (sum x.step y.step) PartsHold-sum

    pub IsEnclosure-difference : IsEnclosure (λ t. fraction_sub (f t) (g t)) a b (difference_of a b x y)
    unfolding difference_of
    IsEnclosure-difference = IsEnclosure-parts (λ t. fraction_sub (f t) (g t)) a b AllFractions-two ab (difference x.mid y.mid) (difference x.range y.range) (difference x.step y.step) PartsHold-difference

    pub IsEnclosure-product : IsEnclosure (λ t. fraction_mul (f t) (g t)) a b (product_of a b x y)
    unfolding product_of
    IsEnclosure-product = IsEnclosure-parts (λ t. fraction_mul (f t) (g t)) a b AllFractions-two ab (product x.mid y.mid) (product x.range y.range) (sum (product x.range y.step) (product y.range x.step)) PartsHold-product

module _ (a b : ℤ) (ab : a ≤ℤ b) (f : ℤ → Fraction) (fs : AllFractions f a b) (x : Enclosure) (hx : IsEnclosure f a b x) where
  pub PartsHold-signed_square : PartsHold (λ t. fraction_signed_square (f t)) a b (signed_square x.mid) (signed_square x.range) (product (twice_size x.range) x.step)
  PartsHold-signed_square =
      record { mid = Holds-signed_square x.mid _ hx.mid; plain = λ t p q. Holds-signed_square x.range (f t) (hx.range t p q); step = λ t p q. Holds-square_step x.range x.step (f t) (f (t +ℤ pos 1)) (fs t p (omega (arith, lin))) (fs (t +ℤ pos 1) (omega (arith, lin)) (omega (arith, lin))) (hx.range t p (omega (arith, lin))) (hx.range (t +ℤ pos 1) (omega (arith, lin)) (omega (arith, lin))) (hx.step t p q) }

  pub IsEnclosure-signed_square : IsEnclosure (λ t. fraction_signed_square (f t)) a b (signed_square_of a b x)
  unfolding signed_square_of
  IsEnclosure-signed_square = IsEnclosure-parts (λ t. fraction_signed_square (f t)) a b (AllFractions-two a b ab f f fs fs) ab (signed_square x.mid) (signed_square x.range) (product (twice_size x.range) x.step) PartsHold-signed_square

pub PartsHold-constant : (a b : ℤ) (r : Fraction) (c : Interval) → Holds c r → PartsHold (λ t. r) a b c c zero_interval
PartsHold-constant a b r c h = record { mid = h; plain = λ t p q. h; step = λ t p q. Holds-zero (fraction_sub r r) (itself r) }

pub IsEnclosure-constant : (a b : ℤ) → a ≤ℤ b → (r : Fraction) → IsFraction r → (c : Interval) → Holds c r → IsEnclosure (λ t. r) a b (constant_of a b c)
unfolding constant_of
IsEnclosure-constant a b ab r rs c h =
    IsEnclosure-parts (λ t. r) a b (λ t p q. rs) ab c c zero_interval (PartsHold-constant a b r c h)
