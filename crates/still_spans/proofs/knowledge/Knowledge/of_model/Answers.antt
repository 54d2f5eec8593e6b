use Rattle.std.proofs.Common.{subst, w64}
use Rattle.std.proofs.lemmas.Int.{to_z-of_z}
use Rattle.spec_stills.specs.Margins.{range_at}
use Rattle.event_models.specs.Signs.{TellsOver}
use Rattle.still_spans.proofs.Margins.{signs_known, values_known}
use Rattle.still_spans.proofs.knowledge.Knowledge.of_model.Goals as goal

pub returns-in-Values : goal.returns-in-Values
returns-in-Values c =
    let s = c.args.search.now in
    let m = c.args.made.model in
    values_known s m c.args.first c.args.last _ _ (to_z-of_z w64 c.args.first c.ranges.first) (to_z-of_z w64 c.args.last c.ranges.last) c.is_search.ensures c.requires.fits c.requires.several
    (subst (λ told. TellsOver c.args.first c.args.last (range_at s) told m) c.in-Values.is c.requires.told)

pub returns-in-Signs : goal.returns-in-Signs
returns-in-Signs c =
    let s = c.args.search.now in
    let m = c.args.made.model in
    signs_known s m c.args.first c.args.last _ _ (to_z-of_z w64 c.args.first c.ranges.first) (to_z-of_z w64 c.args.last c.ranges.last) c.is_search.ensures c.requires.fits c.requires.several
    (subst (λ told. TellsOver c.args.first c.args.last (range_at s) told m) c.in-Signs.is c.requires.told)
