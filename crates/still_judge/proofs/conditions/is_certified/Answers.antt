use Rattle.std.proofs.Common.{◌∙◌, ap, not, subst, w64}
use Rattle.std.proofs.lemmas.Int.{to_z-of_z}
use Rattle.spec_bodies.specs.Views.{IsView}
use Rattle.spec_searches.proofs.Borders.{time_fits}
use Rattle.still_judge.proofs.Certifying.{by_no, by_open, by_yes, found_sign}
use Rattle.still_judge.proofs.conditions.is_certified.Goals as goal

pub enclosure-over-requires : goal.enclosure-over-requires
enclosure-over-requires c =
    let view = subst IsView c.states-states.ensures c.columns-columns.ensures.view in
    record { fits = rw (c.states-states.ensures, to_z-of_z w64 c.args.time c.ranges.time) (time_fits c.args.search.now.view view c.args.time c.requires.from c.requires.upto) }

pub returns-in-Yes : goal.returns-in-Yes
returns-in-Yes c =
    c.at_least.ensures
    ∙ by_yes c.args.guard.now.at_least _
    (found_sign c.args.search.now.view _ c.states-states.ensures c.args.guard.now.term _ c.formula.ensures c.args.time _ (to_z-of_z w64 c.args.time c.ranges.time) _ c.enclosure-over.ensures _ _ c.sign.ensures c.in-Yes.is)

pub returns-in-No : goal.returns-in-No
returns-in-No c =
    ap not c.at_least-in-No.ensures
    ∙ by_no c.args.guard.now.at_least _
    (found_sign c.args.search.now.view _ c.states-states.ensures c.args.guard.now.term _ c.formula.ensures c.args.time _ (to_z-of_z w64 c.args.time c.ranges.time) _ c.enclosure-over.ensures _ _ c.sign.ensures c.in-No.is)

pub returns-in-Open : goal.returns-in-Open
returns-in-Open c =
    by_open c.args.guard.now.at_least _
    (found_sign c.args.search.now.view _ c.states-states.ensures c.args.guard.now.term _ c.formula.ensures c.args.time _ (to_z-of_z w64 c.args.time c.ranges.time) _ c.enclosure-over.ensures _ _ c.sign.ensures c.in-Open.is)
