use Rattle.std.proofs.Common.{◌∙◌, ap, not, subst, w64}
use Rattle.std.proofs.lemmas.Int.{to_z-of_z}
use Rattle.spec_bodies.proofs.InUse.{present_in_use}
use Rattle.spec_bodies.specs.Views.{IsView}
use Rattle.spec_ephemeris.specs.Borders.{nearest_border}
use Rattle.still_spans.proofs.Margins.{fits_by}
use Rattle.still_spans.proofs.granules.has_no_border_between.Goals as goal

pub border_near-requires-clause-present : goal.border_near-requires-clause-present
border_near-requires-clause-present c = rw (c.columns-columns.ensures.in_use, c.ephemeris.ensures, ← c.states.ensures) (present_in_use c.states.result.now c.columns-columns.ensures.view)

pub returns : goal.returns
returns c = λ none.
    let a = to_z-of_z w64 c.args.a c.ranges.a in
    let b = to_z-of_z w64 c.args.b c.ranges.b in
    fits_by c.args.search.now c.states.result.now c.ephemeris.result.now c.columns-columns.result.now c.border_near.result c.args.a c.args.b
    (subst IsView c.states.ensures c.columns-columns.ensures.view) c.states.ensures c.columns-columns.ensures.in_use c.ephemeris.ensures
    (c.border_near.ensures ∙ λ i. nearest_border c.ephemeris.result.now c.columns-columns.result.now (a i) (b i))
    c.requires.from c.requires.several c.requires.upto (c.is_none.ensures ∙ ap not none)
