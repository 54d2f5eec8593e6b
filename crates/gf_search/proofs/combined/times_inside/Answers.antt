use Rattle.std.proofs.lemmas.Result.{IfOk-weaker}
use Rattle.spec_sets.specs.Signs.{opposite}
use Rattle.gf_search.proofs.Ends.{opposite_as_read}
use Rattle.gf_search.proofs.combined.times_inside.Goals as goal

pub returns : goal.returns
returns c =
    IfOk-weaker c.intersect.result _ _
    (λ pair signs x y are other. signs x (λ t. opposite (y t)) c.args.span.from c.args.span.upto
    are
    (opposite_as_read c.args.span c.requires.span c.args.second.now c.in_ok-below.below c.in_ok-below.ensures.signs y other))
    c.intersect.ensures.signs
