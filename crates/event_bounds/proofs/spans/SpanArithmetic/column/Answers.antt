use Rattle.std.proofs.Common.{◌≡◌, ◌∙◌, ℕ, arith}
use Rattle.spec_intervals.specs.Enclosure.{IsWithin}
use Rattle.spec_intervals.proofs.Exponents.{IsWithin-more}
use Rattle.spec_bodies.specs.declared.quantity.Quantity.{Quantity}
use Rattle.spec_bodies.specs.Reading.{IsReadable, column_lowest}
use Rattle.spec_bounds.proofs.Within.{changes-within, values-within}
use Rattle.spec_steps.specs.ColumnTerms.{column, sight_of}
use Rattle.spec_steps.specs.Parts.{IsPart}
use Rattle.spec_steps.proofs.Parts.{column_seen, seen_readable}
use Rattle.event_expr.specs.States.{wide_exponent}
use Rattle.body_states.specs.Ranges.{Asked, column_range}
use Rattle.event_bounds.specs.declared.spans.Span.{Span}
use Rattle.event_bounds.specs.Spans.{IsSpanRight}
use Rattle.event_bounds.proofs.spans.SpanArithmetic.column.Goals as goal
use Rattle.event_bounds.proofs.spans.SpanArithmetic.column.Goals.{After-of-range}

readable : (s : Span) → IsSpanRight s → (q : Quantity) (number axis : ℕ) → IsPart (sight_of s.states.now) (column q number axis) → IsReadable s.states.now number axis
readable s right q number axis part = seen_readable s.states.now number axis right.fits.view (column_seen (sight_of s.states.now) q number axis part)

pub of-range-requires-clause-usable : goal.of-range-requires-clause-usable
of-range-requires-clause-usable c = rw c.ranges_of.ensures.view (readable c.args.self.now c.requires.ready c.args.quantity c.args.number c.args.axis c.requires.part).usable

pub of-range-requires-clause-axis : goal.of-range-requires-clause-axis
of-range-requires-clause-axis c = (readable c.args.self.now c.requires.ready c.args.quantity c.args.number c.args.axis c.requires.part).along

-- what is read is what is asked over the times
abbrev asked : Span → Quantity → Asked → Asked
asked s q r = record { view = s.states.now; quantity = q; axes = r.axes; first = s.times.span.now.first; last = s.times.span.now.last }

read : (c : After-of-range) → c.of-range.result ≡ column_range (asked c.args.self.now c.args.quantity c.ranges_of.result.now) c.args.number c.args.axis
read c =
    let is = c.ranges_of.ensures in
    c.of-range.ensures ∙ λ i. column_range (record { view = is.view i; quantity = is.quantity i; axes = c.ranges_of.result.now.axes; first = is.first i; last = is.last i }) c.args.number c.args.axis

-- its values and its changes
within : (c : After-of-range) → IsWithin wide_exponent c.of-range.result.values × IsWithin wide_exponent c.of-range.result.changes
within c =
    let s = c.args.self.now in
    let t = s.times.span.now in
    let is = readable s c.requires.ready c.args.quantity c.args.number c.args.axis c.requires.part in
    rw (read c) (
      IsWithin-more column_lowest wide_exponent _ (omega arith) (values-within s.states.now t.first t.last c.requires.ready.fits c.args.quantity c.args.number c.args.axis is),
      IsWithin-more column_lowest wide_exponent _ (omega arith) (changes-within s.states.now t.first t.last c.requires.ready.fits c.args.quantity c.args.number c.args.axis is),
    )

pub bound-requires-clause-range : goal.bound-requires-clause-range
bound-requires-clause-range c = (within (goal.at.bound-requires-clause-range c).After-of-range).0

pub bound-requires-clause-step : goal.bound-requires-clause-step
bound-requires-clause-step c = (within (goal.at.bound-requires-clause-step c).After-of-range).1

pub returns : goal.returns
returns c = rw (read (goal.at.returns c).After-of-range) at c.bound.ensures
