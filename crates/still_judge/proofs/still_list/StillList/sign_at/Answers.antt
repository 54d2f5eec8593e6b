use Rattle.std.proofs.Common.{rules, ◌≡◌, ◌≤◌, true, false, List, length, ◌≤ℤ◌, sym, subst, ◌∙◌, arith, w64}
use Rattle.std.proofs.lemmas.Int.{ints, to_z-of_z}
use Rattle.std.proofs.lemmas.List.Sorted.{IsPartitionPoint-from_clause}
use Rattle.std.specs.List.Sorted.{IsPartitionPoint}
use Rattle.std.specs.Prelude.{int_le}
use Rattle.spec_stills.specs.declared.still.StillSpan.{StillSpan}
use Rattle.still_judge.specs.Order.{are_in_order}
use Rattle.still_judge.proofs.FollowingNodes.{are_parted}
use Rattle.still_judge.proofs.TimesHeld.{told}
use Rattle.still_judge.proofs.still_list.StillList.sign_at.Goals as goal

pub returns-then-time-still : goal.returns-then-time-still
returns-then-time-still c = λ sign tell.
    let time = c.args.time in
    let same = c.deref.ensures.value ∙ c.self.view_is in
    let ordered = subst (λ (xs : List StillSpan). are_in_order xs ≡ true) (sym c.deref.ensures.value) c.self.invariant in
    let point = IsPartitionPoint-from_clause (λ x. int_le x.from time) _ _ c.partition_point-count.ensures.partitioned (are_parted time c.deref.result.now ordered) (λ a r q k. search rules) in
    let here = to_z-of_z w64 time c.ranges.time in
    let test = c.if-time-still.true in
    let upto : time ≤ℤ c.span_at-still.result.upto = grind (arith, ints, here, test) in
    told sign c.args.self.now time c.partition_point-count.result c.in-Some.place c.span_at-still.result
    (subst (λ (xs : List StillSpan). IsPartitionPoint (λ x. int_le x.from time ≡ true) (λ x. int_le x.from time ≡ false) xs c.partition_point-count.result) same point)
    (subst (λ (xs : List StillSpan). c.partition_point-count.result ≤ length xs) same c.partition_point-count.ensures.bound)
    c.in-Some.ensures.0 c.in-Some.ensures.1 c.span_at-still.ensures.span upto tell
