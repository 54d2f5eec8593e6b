use Rattle.std.proofs.Common.{sym, ap, ◌∙◌, Option}
use Rattle.spec_stills.specs.declared.still.StillSpan.{StillSpan}
use Rattle.spec_stills.specs.Weights.{weight_by}
use Rattle.still_judge.proofs.still_list.StillList.weight.Goals as goal

pub returns-in-Some-clause-weight : goal.returns-in-Some-clause-weight
returns-in-Some-clause-weight c =
    c.max_leaf_count.ensures.leaves ∙ ap (λ (found : Option StillSpan). weight_by found c.args.leaf.node) (sym c.in-Some.is ∙ c.serving_span.ensures.span)

pub returns-in-None-clause-weight : goal.returns-in-None-clause-weight
returns-in-None-clause-weight c =
    ap (λ (found : Option StillSpan). weight_by found c.args.leaf.node) (sym c.in-None.is ∙ c.serving_span.ensures.span)
