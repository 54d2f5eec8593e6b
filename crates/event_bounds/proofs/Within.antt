-- The exponents of what is made stay within the limit of parts.
use Rattle.std.proofs.Common.{◌≡◌, ℕ, arith, sym, subst, ℤ}
use Rattle.spec_intervals.specs.Interval.{Interval}
use Rattle.spec_intervals.specs.Enclosure.{IsWithin}
use Rattle.spec_intervals.proofs.Exponents.{IsWithin-more}
use Rattle.spec_expressions.specs.Term.{part_exponent}
use Rattle.spec_bodies.specs.declared.factor.Factor.{Factor}
use Rattle.spec_bodies.specs.Meanings.{factor_interval}
use Rattle.spec_bodies.specs.Views.{Fits, View, factor_of}
use Rattle.spec_models.specs.Bounds.{Bound, constant_bound}
use Rattle.spec_bounds.specs.Limits.{IsBoundWithin}
use Rattle.spec_bounds.proofs.Exponents.{constant-reached, reached-within}
use Rattle.spec_bounds.proofs.Within.{factor-within}
use Rattle.spec_steps.specs.ColumnTerms.{ColumnTerm, sight_of}
use Rattle.spec_steps.specs.Meanings.{bound_meant}
use Rattle.spec_steps.specs.Parts.{IsPart}
use Rattle.column_steps.specs.Values.{AreOperands}
use Rattle.event_bounds.specs.declared.bound.Bound.{Bound as Made}
use Rattle.event_bounds.specs.declared.spans.Span.{Span}
use Rattle.event_bounds.specs.Made.{IsBound, IsMadeWithin}
use Rattle.event_bounds.specs.Spans.{IsBoundOf, IsSpanRight}
use Rattle.event_bounds.proofs.Rules.{span_of}

-- what is a bound has its limits
made_within : (n : ℕ) (made : Made) (p : Bound) → IsBound made p → IsBoundWithin n p → IsMadeWithin n made
made_within n made p is within = record { range = subst (IsWithin n) (sym is.range) within.range; step = subst (IsWithin n) (sym is.step) within.step }

-- ---- the bounds of what may stand in a list
abbrev pub AreLimited : Type 0
AreLimited = (v : View) (t : ColumnTerm) (a b : ℤ) → IsPart (sight_of v) t → Fits v a b → IsBoundWithin part_exponent (bound_meant v a b t)

module _ (s : Span) (right : IsSpanRight s) where
  pub part_within : AreLimited → (t : ColumnTerm) → IsPart (sight_of s.states.now) t → (made : Made) → IsBoundOf s t made → IsMadeWithin part_exponent made
  part_within limits t part made is = made_within part_exponent made _ is (limits s.states.now t s.times.span.now.first s.times.span.now.last part right.fits)

  -- ---- two operands, by what the parts of such a term are
  module _ (limits : AreLimited) (whole : ColumnTerm → ColumnTerm → ColumnTerm) (parts : (p q : ColumnTerm) → IsPart (sight_of s.states.now) (whole p q) → IsPart (sight_of s.states.now) p × IsPart (sight_of s.states.now) q)
      (x y : Made) (of : AreOperands (sight_of s.states.now) (λ t made. IsBoundOf s t made) whole x y) where
    pub first_within : IsMadeWithin part_exponent x
    first_within = part_within limits of.first (parts of.first of.second of.part).0 x of.of_first

    pub second_within : IsMadeWithin part_exponent y
    second_within = part_within limits of.second (parts of.first of.second of.part).1 y of.of_second

  -- ---- factors
  pub factor_part : (f : Factor) (r : Interval) → r ≡ factor_interval (factor_of s.states.now f) → IsWithin part_exponent r
  factor_part f r is = rw is (IsWithin-more 60 part_exponent _ (omega arith) (factor-within s.states.now s.times.span.now.first s.times.span.now.last right.fits f))

  pub constant_part : (f : Factor) (r : Interval) (made : Made) → r ≡ factor_interval (factor_of s.states.now f)
      → IsBound made (constant_bound s.times.span.now.first s.times.span.now.last r) → IsMadeWithin part_exponent made
  constant_part f r made is made_is =
      made_within part_exponent made _ made_is
      (reached-within 60 part_exponent _ (omega arith)
      (constant-reached s.times.span.now.first s.times.span.now.last (span_of s.times) 60 r
      (subst (IsWithin 60) (sym is) (factor-within s.states.now s.times.span.now.first s.times.span.now.last right.fits f))))
