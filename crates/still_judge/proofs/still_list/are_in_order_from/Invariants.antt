use Rattle.std.proofs.Common.{◌≡◌, drop}
use Rattle.still_judge.specs.Order.{follow}
use Rattle.still_judge.proofs.still_list.are_in_order_from.Given as goal

abbrev pub invariant-loop-still : goal.invariant-loop-still
invariant-loop-still l = follow l.first l.stills ≡ follow l.time (drop l.still-index l.stills)
