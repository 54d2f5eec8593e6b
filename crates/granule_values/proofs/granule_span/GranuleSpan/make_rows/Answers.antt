use Rattle.std.proofs.Common.{rules}
use Rattle.granule_values.specs.Bases.{IsSingle}
use Rattle.granule_values.proofs.Shared.{kept_at, kept_over}
use Rattle.granule_values.proofs.granule_span.GranuleSpan.make_rows.Goals as goal

pub returns-then-has_several-clause-kept : goal.returns-then-has_several-clause-kept
returns-then-has_several-clause-kept c =
    let served = c.turn_to.ensures.served in
    kept_over c.args.self.now c.args.question.now (record c.turn_to.new.self { centre = c.make_centre.new.row; whole = c.make_whole.new.rows }) c.requires
    (record { start = served.start; seconds = served.seconds; few = served.few })
    c.make_centre.ensures.over (rw c.turn_to.ensures.entries c.make_centre.ensures.row)
    c.make_whole.ensures.over (rw c.turn_to.ensures.entries c.make_whole.ensures.rows)

pub returns-else-has_several-clause-kept : goal.returns-else-has_several-clause-kept
returns-else-has_several-clause-kept c =
    let served = c.turn_to.ensures.served in
    let single : IsSingle c.args.self.now = search rules in
    kept_at c.args.self.now c.args.question.now (record c.turn_to.new.self { centre = c.make_centre.new.row }) c.requires
    (record { start = served.start; seconds = served.seconds; few = served.few }) single
    c.make_centre.ensures.over (rw c.turn_to.ensures.entries c.make_centre.ensures.row)
