use Rattle.std.proofs.Common.{arith}
use Rattle.spec_bodies.specs.Coordinates.{barycentric_coordinate, less}
use Rattle.spec_steps.specs.ColumnTerms.{difference}
use Rattle.spec_steps.proofs.Parts.{less_seen, seen_part}
use Rattle.column_steps.proofs.Entered.{both_below, both_entered, both_part, still_seen}
use Rattle.column_steps.proofs.step_list.StepList.enter_difference.Goals as goal

pub enter_barycentric-own-requires-clause-room : goal.enter_barycentric-own-requires-clause-room
enter_barycentric-own-requires-clause-room c = let few = c.requires.few in let room = c.requires.room in omega (arith, few, room)

pub enter_barycentric-own-requires-clause-seen : goal.enter_barycentric-own-requires-clause-seen
enter_barycentric-own-requires-clause-seen c = (less_seen _ (barycentric_coordinate c.args.source c.args.axis) (barycentric_coordinate c.args.observer c.args.axis) c.requires.seen).0

pub enter_barycentric-other-requires-clause-room : goal.enter_barycentric-other-requires-clause-room
enter_barycentric-other-requires-clause-room c =
    let few = c.requires.few in
    let room = c.requires.room in
    let grown = c.enter_barycentric-own.ensures.grown.few in
    omega (arith, few, room, grown)

pub enter_barycentric-other-requires-clause-seen : goal.enter_barycentric-other-requires-clause-seen
enter_barycentric-other-requires-clause-seen c =
    still_seen _ _ _ _ c.enter_barycentric-own.ensures.grown
    (less_seen _ (barycentric_coordinate c.args.source c.args.axis) (barycentric_coordinate c.args.observer c.args.axis) c.requires.seen).1

pub enter-requires-clause-room : goal.enter-requires-clause-room
enter-requires-clause-room c =
    let few = c.requires.few in
    let room = c.requires.room in
    let first = c.enter_barycentric-own.ensures.grown.few in
    let second = c.enter_barycentric-other.ensures.grown.few in
    omega (arith, few, room, first, second)

pub enter-requires-clause-step : goal.enter-requires-clause-step
enter-requires-clause-step c =
    let first = c.enter_barycentric-own.ensures in
    let second = c.enter_barycentric-other.ensures in
    let whole = less (barycentric_coordinate c.args.source c.args.axis) (barycentric_coordinate c.args.observer c.args.axis) in
    record {
      operands = both_below difference _ _ _ _ _ _ _ _ _ first second;
      part = both_part difference _ _ _ _ _ _ _ _ _ first second (seen_part c.args.self.now.sight c.args.quantity whole c.requires.seen);
    }

pub returns : goal.returns
returns c = both_entered difference _ _ _ _ _ _ _ _ _ c.enter_barycentric-own.ensures c.enter_barycentric-other.ensures _ _ _ c.requires.few c.enter.ensures
