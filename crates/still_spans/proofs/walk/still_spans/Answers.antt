use Rattle.std.proofs.Common.{arith, w64}
use Rattle.std.proofs.lemmas.Int.{ints, to_z-of_z}
use Rattle.still_spans.proofs.FollowingSpans.{sooner_if}
use Rattle.still_spans.proofs.walk.still_spans.Goals as goal

pub returns-clause-follow : goal.returns-clause-follow
returns-clause-follow c =
    let later = to_z-of_z w64 c.max-first.result (record { sfits = c.max-first.type_inv }) in
    let bound = c.max-first.ensures.self_bound in
    let from = to_z-of_z w64 c.args.from c.ranges.from in
    sooner_if c.args.from _ c.still_spans_between.result (omega (arith, ints, later, bound, from)) c.still_spans_between.ensures.follow
