use Rattle.std.proofs.Common.{w64}
use Rattle.std.proofs.lemmas.Int.{to_z-of_z}
use Rattle.spec_bounds.proofs.States.{part_fits}
use Rattle.still_spans.proofs.known.Known.model_for_parts.Goals as goal

pub over-requires-clause-fits : goal.over-requires-clause-fits
over-requires-clause-fits c =
    let within = c.requires.within in
    rw (to_z-of_z w64 c.args.a c.ranges.a, to_z-of_z w64 c.args.b c.ranges.b)
    (part_fits c.args.search.now.view c.args.a c.args.b c.args.self.now.first c.args.self.now.last c.requires.known.fits within.from within.several within.upto)
