use Rattle.std.proofs.Common.{get_or, slice_set, length-set, arith}
use Rattle.std.proofs.lemmas.Option.{slice_get-get_or}
use Rattle.pool_core.specs.States.{Holding}
use Rattle.pool_core.proofs.Stepping.{steals, no_steal}
use Rattle.pool_core.proofs.pool.move_front.Goals as goal

pub returns-in_default-clause-refused : goal.returns-in_default-clause-refused
returns-in_default-clause-refused c =
    let ws = c.args.workers.now in
    let x : Holding = get_or ws c.args.from c.index-workers-from.result in
    no_steal ws c.args.at c.args.from x (slice_get-get_or ws c.args.from c.index-workers-from.result (omega arith)) c.in_default.ensures.none

pub returns-clause-ok : goal.returns-clause-ok
returns-clause-ok c =
    let ws = c.args.workers.now in
    let x : Holding = get_or ws c.args.from c.index-workers-from.result in
    let y : Holding = c.take_front.new.self in
    let u : Holding = get_or (slice_set ws c.args.from y) c.args.at c.index-workers-at-2.result in
    let long = length-set ws c.args.from y in
    steals ws c.args.at c.args.from x (slice_get-get_or ws c.args.from c.index-workers-from.result (omega arith)) c.in-Some.node y u c.take_into_hand.new.self (omega arith)
    c.in-Some.ensures.some
    (slice_get-get_or (slice_set ws c.args.from y) c.args.at c.index-workers-at-2.result (omega arith))
    c.take_into_hand.ensures
