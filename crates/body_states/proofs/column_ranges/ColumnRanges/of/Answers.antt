use Rattle.std.proofs.Common.{◌∙◌, ap, sym, subst}
use Rattle.spec_intervals.specs.Enclosure.{Enclosure}
use Rattle.spec_bodies.specs.Reading.{IsUsable}
use Rattle.body_states.specs.declared.column_ranges.ColumnRange.{ColumnRange}
use Rattle.body_states.specs.Ranges.{Asked, column_range}
use Rattle.body_states.proofs.column_ranges.ColumnRanges.of.Goals as goal

abbrev range_of : Enclosure → ColumnRange
range_of parts = record { values = parts.range; changes = parts.step }

pub column_enclosure-parts-requires : goal.column_enclosure-parts-requires
column_enclosure-parts-requires c = record {
  fits = c.self.invariant.2;
  entries = c.self.invariant.0;
  usable = subst (λ (q : Asked). IsUsable q.view c.args.number) (sym c.self.view_is) c.requires.usable;
  axis = c.requires.axis;
}

pub returns : goal.returns
returns c = ap range_of c.column_enclosure-parts.ensures ∙ λ i. column_range (c.self.view_is i) c.args.number c.args.axis
