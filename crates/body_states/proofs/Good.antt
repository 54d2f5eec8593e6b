-- What the rules owe for the enclosures of what may stand in a list: they are within the limits, and enclose a value.
use Rattle.std.proofs.Common.{◌≡◌, arith, refl, sym, subst, ℤ, pos, ◌≤ℤ◌}
use Rattle.std.proofs.lemmas.Int.{ints}
use Rattle.spec_intervals.specs.Interval.{zero_interval}
use Rattle.spec_intervals.specs.Fraction.{IsFraction, Holds, Overlaps, fraction}
use Rattle.spec_intervals.specs.Enclosure.{Enclosure, IsWithin, AllWithin, Encloses, constant_of}
use Rattle.spec_intervals.proofs.Compare.{Holds-zero}
use Rattle.spec_intervals.proofs.Enclosed.{IsEnclosure-constant}
use Rattle.spec_expressions.specs.Term.{part_exponent}
use Rattle.spec_bodies.specs.declared.factor.Factor.{Factor}
use Rattle.spec_bodies.specs.Meanings.{factor_interval}
use Rattle.spec_bodies.specs.Reading.{IsFactor}
use Rattle.spec_bodies.specs.Views.{View, IsView, Fits, factor_of}
use Rattle.spec_bodies.proofs.Factors.{factor_is, constant_is}
use Rattle.spec_bodies.proofs.Formulas.{IsFraction-factor, Holds-factor_interval}
use Rattle.spec_steps.specs.ColumnTerms.{ColumnTerm, sight_of}
use Rattle.spec_steps.specs.Parts.{IsPart}
use Rattle.spec_steps.specs.Meanings.{enclosure_meant}
use Rattle.column_steps.specs.Values.{AreOperands, IsOperand}
use Rattle.body_states.specs.Moments.{Moment, meant_in}

-- by the law
abbrev pub AreWithin : Type 0
AreWithin = (v : View) (t : ColumnTerm) (a b : ℤ) → IsPart (sight_of v) t → Fits v a b → AllWithin part_exponent (enclosure_meant v a b t)

abbrev pub AreEnclosing : Type 0
AreEnclosing = (v : View) (t : ColumnTerm) (a b : ℤ) → IsPart (sight_of v) t → Fits v a b → Encloses a b (enclosure_meant v a b t)

module _ (laws : record { within : AreWithin; encloses : AreEnclosing }) (inside m : Moment) (same : inside ≡ m) (fits : Fits inside.view inside.first inside.last) where
  abbrev IsOf : ColumnTerm → Enclosure → Type 0
  IsOf t made = made ≡ meant_in m t

  fits_as : Fits m.view m.first m.last
  fits_as = subst (λ (n : Moment). Fits n.view n.first n.last) same fits

  part_within : (t : ColumnTerm) → IsPart (sight_of m.view) t → (x : Enclosure) → IsOf t x → AllWithin part_exponent x
  part_within t part x is = subst (AllWithin part_exponent) (sym is) (laws.within m.view t m.first m.last part fits_as)

  part_encloses : (t : ColumnTerm) → IsPart (sight_of m.view) t → (x : Enclosure) → IsOf t x → Encloses inside.first inside.last x
  part_encloses t part x is =
      subst (λ (n : Moment). Encloses n.first n.last x) (sym same) (subst (Encloses m.first m.last) (sym is) (laws.encloses m.view t m.first m.last part fits_as))

  -- one part
  pub one : (whole : ColumnTerm → ColumnTerm) → ((p : ColumnTerm) → IsPart (sight_of m.view) (whole p) → IsPart (sight_of m.view) p) → (x : Enclosure) → IsOperand (sight_of m.view) IsOf whole x
      → record { within : AllWithin part_exponent x; encloses : Encloses inside.first inside.last x }
  one whole part x is =
      let own = part is.operand is.part in
      record { within = part_within is.operand own x is.of_operand; encloses = part_encloses is.operand own x is.of_operand }

  -- two parts
  pub two : (whole : ColumnTerm → ColumnTerm → ColumnTerm) → ((p q : ColumnTerm) → IsPart (sight_of m.view) (whole p q) → IsPart (sight_of m.view) p × IsPart (sight_of m.view) q)
      → (x y : Enclosure) → AreOperands (sight_of m.view) IsOf whole x y
      → record { x_within : AllWithin part_exponent x; y_within : AllWithin part_exponent y; x_encloses : Encloses inside.first inside.last x; y_encloses : Encloses inside.first inside.last y }
  two whole parts x y are =
      let both = parts are.first are.second are.part in
      record {
        x_within = part_within are.first both.0 x are.of_first;
        y_within = part_within are.second both.1 y are.of_second;
        x_encloses = part_encloses are.first both.0 x are.of_first;
        y_encloses = part_encloses are.second both.1 y are.of_second;
      }

-- 0 is a number
pub zero_number : Overlaps zero_interval zero_interval
zero_number = record { common = fraction (pos 0) 1; is_fraction = omega arith; in_first = Holds-zero (fraction (pos 0) 1) refl; in_second = Holds-zero (fraction (pos 0) 1) refl }

-- ---- a factor of the view
module _ (v : View) (is : IsView v) (f : Factor) where
  factor_of_view : IsFactor (factor_interval (factor_of v f))
  factor_of_view = factor_is v.ephemeris.header.emrat is.checked.header.ratio f

  number : IsFraction (factor_of v f)
  number = IsFraction-factor v.ephemeris.header.emrat f

  held : Holds (factor_interval (factor_of v f)) (factor_of v f)
  held = Holds-factor_interval (factor_of v f) number

  pub factor_number : Overlaps (factor_interval (factor_of v f)) (factor_interval (factor_of v f))
  factor_number = record { common = factor_of v f; is_fraction = number; in_first = held; in_second = held }

  pub factor_within : IsWithin part_exponent (factor_interval (factor_of v f))
  factor_within = let s = factor_of_view.exponent in record { lo_small = factor_of_view.lo_small; hi_small = factor_of_view.hi_small; exponent = omega (arith, ints, s) }

  pub constant_within : (a b : ℤ) → AllWithin part_exponent (constant_of a b (factor_interval (factor_of v f)))
  constant_within a b =
      subst (AllWithin part_exponent) (sym (constant_is a b (factor_interval (factor_of v f)) factor_of_view))
      (record { mid = factor_within; range = factor_within; step = record { lo_small = omega arith; hi_small = omega arith; exponent = omega arith } })

  pub constant_encloses : (a b : ℤ) → a ≤ℤ b → Encloses a b (constant_of a b (factor_interval (factor_of v f)))
  constant_encloses a b ab = record { exact = λ t. factor_of v f; numbers = λ t p q. number; is_enclosure = IsEnclosure-constant a b ab (factor_of v f) number (factor_interval (factor_of v f)) held }
