use Rattle.std.proofs.lemmas.Result.{IfOk-weaker}
use Rattle.spec_sets.specs.Signs.{opposite}
use Rattle.gf_search.proofs.Ends.{opposite_as_read}
use Rattle.gf_search.proofs.combined.times_outside.Goals as goal

pub returns : goal.returns
returns c =
    IfOk-weaker c.union.result _ _
    (λ pair signs x y are other. signs (λ t. opposite (x t)) y c.args.span.from c.args.span.upto
    (opposite_as_read c.args.span c.requires.span c.args.first.now c.in_ok-below.below c.in_ok-below.ensures.signs x are)
    other)
    c.union.ensures.signs
