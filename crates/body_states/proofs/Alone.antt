-- At a single time the enclosure of a term is an interval alone: it is the middle and the range, and nothing changes.
use Rattle.std.proofs.Common.{◌≡◌, ◌∙◌, Bool, true, false, ap, arith, refl, subst, sym, ℤ, ◌≤ℤ◌}
use Rattle.std.proofs.lemmas.Int.{ints}
use lib.Signed.{lt_z}
use Rattle.spec_numbers.proofs.Order.{lin}
use Rattle.spec_intervals.specs.Interval.{Interval, IsExponent, zero_interval, sum as interval_sum, difference as interval_difference, product as interval_product, signed_square as interval_square}
use Rattle.spec_intervals.specs.Enclosure.{Enclosure, triple, enclosure, middle, constant_of, sum_of, difference_of, product_of, signed_square_of}
use Rattle.spec_intervals.proofs.Centred.{middle_between}
use Rattle.spec_ephemeris.specs.Granules.{series_at}
use Rattle.spec_expressions.specs.Term.{Term, enclosure_of}
use Rattle.spec_bodies.specs.Meanings.{factor_interval}
use Rattle.spec_bodies.specs.Views.{View, Fits, factor_of, state_enclosure, value_interval}
use Rattle.spec_steps.specs.ColumnTerms.{ColumnTerm, column, zero_term, length, cosine, scaled, sum, difference, product, signed_square, of_term, sight_of}
use Rattle.spec_steps.specs.Meanings.{enclosure_meant}
use Rattle.spec_steps.specs.Parts.{IsPart}
use Rattle.spec_steps.proofs.Meanings.{term_enclosed}
use Rattle.event_expr.proofs.Steps.{enclosure-single}
use Rattle.column_steps.specs.Values.{AreOperands, IsOperand}
use Rattle.body_states.specs.declared.single_time.SingleTime.{SingleTime}
use Rattle.body_states.specs.Moments.{IsSingle, point_at}
use Rattle.body_states.proofs.Good.{AreWithin}

-- a single time is its own middle
pub middle_alone : (a b : ℤ) → a ≤ℤ b → lt_z a b ≡ false → (middle a b ≡ a) × (b ≡ a)
middle_alone a b ordered single =
    let between = middle_between a b ordered in
    let from = between.0 in
    let upto = between.1 in
    (omega (arith, ints, lin, ordered, single, from, upto), omega (arith, ints, lin, ordered, single))

module _ (v : View) (t : ℤ) where
  not_later : lt_z t t ≡ false
  not_later = by (lt_z t t) refl
    where
      by : (later : Bool) → lt_z t t ≡ later → later ≡ false
      by true e = absurd (omega (arith, lin))
      by false e = refl

  middle_is : t ≡ middle t t
  middle_is = sym (middle_alone t t (omega (arith, ints)) not_later).0

  made : (x mid plain step : Interval) → x ≡ mid → triple x x zero_interval ≡ enclosure t t mid plain step
  made x mid plain step same = enclosure-single t t not_later x plain step zero_interval refl ∙ λ i. enclosure t t (same i) plain step

  constant_alone : (x : Interval) → triple x x zero_interval ≡ constant_of t t x
  unfolding constant_of
  constant_alone x = made x _ _ _ refl

  pub alone : (x : ColumnTerm) → triple (point_at v t x) (point_at v t x) zero_interval ≡ enclosure_meant v t t x
  unfolding sum_of difference_of product_of signed_square_of
  alone (column q number axis) = made _ _ _ _ (λ i. value_interval q (series_at v.ephemeris number axis t) (middle_is i) (middle_is i))
  alone zero_term = constant_alone _
  alone (length d) = constant_alone _
  alone (cosine d) = constant_alone _
  alone (scaled f x) = made _ _ _ _ (λ i. interval_product (constant_alone (factor_interval (factor_of v f)) i).mid (alone x i).mid)
  alone (sum x y) = made _ _ _ _ (λ i. interval_sum (alone x i).mid (alone y i).mid)
  alone (difference x y) = made _ _ _ _ (λ i. interval_difference (alone x i).mid (alone y i).mid)
  alone (product x y) = made _ _ _ _ (λ i. interval_product (alone x i).mid (alone y i).mid)
  alone (signed_square x) = made _ _ _ _ (λ i. interval_square (alone x i).mid)

  -- ---- what the rules owe for what may stand in a list
  module _ (within : AreWithin) (fits : Fits v t t) where
    abbrev IsPoint : ColumnTerm → Interval → Type 0
    IsPoint x made = made ≡ point_at v t x

    exponent_of : (x : ColumnTerm) → IsPart (sight_of v) x → (r : Interval) → IsPoint x r → IsExponent r.s
    exponent_of x part r is =
        let small = (within v x t t part fits).mid.exponent in
        rw (is ∙ ap (λ (e : Enclosure). e.mid) (alone x)) (omega (arith, small))

    -- one part
    pub one_exponent : (whole : ColumnTerm → ColumnTerm) → ((p : ColumnTerm) → IsPart (sight_of v) (whole p) → IsPart (sight_of v) p) → (x : Interval) → IsOperand (sight_of v) IsPoint whole x → IsExponent x.s
    one_exponent whole part x is = exponent_of is.operand (part is.operand is.part) x is.of_operand

    -- two parts
    pub two_exponents : (whole : ColumnTerm → ColumnTerm → ColumnTerm) → ((p q : ColumnTerm) → IsPart (sight_of v) (whole p q) → IsPart (sight_of v) p × IsPart (sight_of v) q)
        → (x y : Interval) → AreOperands (sight_of v) IsPoint whole x y → record { exponent : IsExponent x.s; other_exponent : IsExponent y.s }
    two_exponents whole parts x y are =
        let both = parts are.first are.second are.part in
        record { exponent = exponent_of are.first both.0 x are.of_first; other_exponent = exponent_of are.second both.1 y are.of_second }

pub fits_alone : (s : SingleTime) → IsSingle s → Fits s.states.now s.times.now.first s.times.now.first
fits_alone s is = subst (Fits s.states.now s.times.now.first) is.alone is.fits

-- what is made of the interval alone is the enclosure of the formula
pub formula_alone : (v : View) (a b : ℤ) → b ≡ a → (e : Term) (x : Interval) (r : Enclosure) → x ≡ point_at v a (of_term (sight_of v) e) → ((plain step : Interval) → r ≡ enclosure a b x plain step)
    → r ≡ enclosure_of (λ leaf. state_enclosure v leaf a b) a b e
formula_alone v a b same e x r is made =
    made x x ∙ (λ i. enclosure a (same i) (is i) (is i) (is i))
    ∙ sym (enclosure-single a a (not_later v a) _ _ _ zero_interval refl)
    ∙ alone v a (of_term (sight_of v) e)
    ∙ term_enclosed v a a e
    ∙ λ i. enclosure_of (λ leaf. state_enclosure v leaf a (sym same i)) a (sym same i) e
