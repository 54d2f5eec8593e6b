use Rattle.std.proofs.Common.{w64}
use Rattle.std.proofs.lemmas.Int.{to_z-of_z}
use Rattle.event_judge.proofs.Near.{time_within}
use Rattle.event_judge.proofs.valid_node.ValidNode.time_at.Goals as goal

pub invariant_of-result : goal.invariant_of-result
invariant_of-result c =
    let n = c.args.self in
    let time = time_within n.search.now n.sound n.node n.valid c.args.time c.requires.after c.requires.before in
    rw (to_z-of_z w64 c.args.time c.ranges.time) (record { sound = n.sound; from = time.from; upto = time.upto; near = time.near })
