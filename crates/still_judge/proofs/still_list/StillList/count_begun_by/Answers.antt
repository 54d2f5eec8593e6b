use Rattle.std.proofs.Common.{rules, ◌≡◌, sym, subst, ◌∙◌, true, List}
use Rattle.std.proofs.lemmas.List.Sorted.{IsPartitionPoint-from_clause}
use Rattle.std.specs.Prelude.{int_le}
use Rattle.spec_stills.specs.declared.still.StillSpan.{StillSpan}
use Rattle.still_judge.specs.Order.{are_in_order}
use Rattle.still_judge.specs.Stands.{IsCount}
use Rattle.still_judge.proofs.FollowingNodes.{are_parted}
use Rattle.still_judge.proofs.still_list.StillList.count_begun_by.Goals as goal

pub returns : goal.returns
returns c =
    let time = c.args.node.a in
    let ordered = subst (λ (xs : List StillSpan). are_in_order xs ≡ true) (sym c.deref.ensures.value) c.self.invariant in
    let point = IsPartitionPoint-from_clause (λ x. int_le x.from time) _ _ c.partition_point.ensures.partitioned (are_parted time c.deref.result.now ordered) (λ a r q k. search rules) in
    subst (λ (xs : List StillSpan). IsCount c.args.node xs c.partition_point.result) (c.deref.ensures.value ∙ c.self.view_is)
    (record { order = ordered; within = c.partition_point.ensures.bound; upto = point })
