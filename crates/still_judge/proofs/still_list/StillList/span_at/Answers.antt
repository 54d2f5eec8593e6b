use Rattle.std.proofs.Common.{◌<◌, ◌≤◌, List, length, sym, subst}
use Rattle.spec_stills.specs.declared.still.StillSpan.{StillSpan}
use Rattle.still_judge.specs.declared.limits.TheConstants.{MAX_HALVINGS}
use Rattle.still_judge.proofs.FollowingNodes.{few_halvings}
use Rattle.still_judge.proofs.still_list.StillList.span_at.Goals as goal

pub returns-clause-few : goal.returns-clause-few
returns-clause-few c =
    let below = subst (λ (xs : List StillSpan). c.args.place < length xs) (sym c.self.view_is) c.requires in
    subst (λ (x : StillSpan). x.halvings ≤ MAX_HALVINGS) (sym c.index.ensures) (few_halvings c.self.inside.spans.items c.self.invariant c.args.place c.index.result.now below)
