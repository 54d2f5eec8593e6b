use Rattle.std.proofs.Common.{◌∙◌, Bool, sym, ap}
use Rattle.spec_stills.specs.Settled.{settled_by}
use Rattle.still_judge.proofs.span_judge.StillJudge.settle_leaf_below.Goals as goal

pub returns : goal.returns
returns g c =
    c.mark_clear_if.ensures ∙ ap (λ (cleared : Bool). settled_by cleared c.args.leaf) (c.lies_in_clear_leaf.ensures ∙ sym c.requires.same)
