use Rattle.std.proofs.Common.{rules}
use Rattle.granule_values.specs.Bases.{AreSeveral}
use Rattle.granule_values.proofs.Sums.{step_is}
use Rattle.granule_values.proofs.granule_span.GranuleSpan.changes_over.Goals as goal

pub returns-then-has_several : goal.returns-then-has_several
returns-then-has_several c =
    let several : AreSeveral c.args.self.now = search rules in
    step_is c.args.self.now c.args.quantity c.args.axis c.args.terms.now c.requires.terms c.step_over.result c.args.whole.now c.requires.whole several c.step_over.ensures
