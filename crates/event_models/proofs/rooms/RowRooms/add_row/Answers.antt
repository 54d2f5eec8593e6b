use Rattle.std.proofs.Common.{rules, ◌≡◌, ◌∙◌, sym, arith, length, unsigned_abs}
use Rattle.event_models.specs.Granules.{HasLine, line_over}
use Rattle.event_models.proofs.Entries.{one_more_made}
use Rattle.event_models.proofs.GranuleLines.{seconds_kept, start_kept}
use Rattle.event_models.proofs.rooms.RowRooms.add_row.Goals as goal

pub returns-then-is_none : goal.returns-then-is_none
returns-then-is_none c =
    let g = c.args.granule.now in
    let t = c.args.times.now in
    let is = c.requires.granule in
    let start = start_kept t.first t.last g.start g.seconds is.evaluable.long is.evaluable.short is.evaluable.start is.from t.ordered is.upto in
    let seconds = seconds_kept t.first t.last g.start g.seconds is.evaluable.long is.evaluable.short is.evaluable.start is.from t.ordered is.upto in
    let four : length c.args.self.now.granules ≡ 4 = search rules in
    let below = c.if-count-lt-MAX_GRANULES.true in
    record {
      few = omega (arith, below);
      lines = one_more_made (HasLine t.first t.last) c.args.self.now.count c.args.self.now.granules c.requires.lines.lines (rw four below) _
          (c.granule_line-line.ensures.equals ∙ λ i. line_over t.first t.last (sym start i) (unsigned_abs (sym seconds i)));
    }
