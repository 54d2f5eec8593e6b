use Rattle.std.proofs.Common.{arith}
use Rattle.spec_bodies.specs.Coordinates.{barycentric_coordinate, less}
use Rattle.spec_steps.specs.ColumnTerms.{difference}
use Rattle.spec_steps.proofs.Parts.{less_seen, seen_part}
use Rattle.column_steps.proofs.Apart.{few_steps}
use Rattle.column_steps.proofs.Entered.{again, both_below, both_entered, both_part}
use Rattle.column_steps.proofs.step_list.StepList.enter_difference_from_itself.Goals as goal

pub enter_barycentric-own-requires-clause-room : goal.enter_barycentric-own-requires-clause-room
enter_barycentric-own-requires-clause-room c = let few = few_steps c.args.source in let room = c.requires.room in omega (arith, few, room)

pub enter_barycentric-own-requires-clause-seen : goal.enter_barycentric-own-requires-clause-seen
enter_barycentric-own-requires-clause-seen c = (less_seen _ (barycentric_coordinate c.args.source c.args.axis) (barycentric_coordinate c.args.source c.args.axis) c.requires.seen).0

pub enter-requires-clause-room : goal.enter-requires-clause-room
enter-requires-clause-room c =
    let few = few_steps c.args.source in
    let room = c.requires.room in
    let grown = c.enter_barycentric-own.ensures.grown.few in
    omega (arith, few, room, grown)

pub enter-requires-clause-step : goal.enter-requires-clause-step
enter-requires-clause-step c =
    let first = c.enter_barycentric-own.ensures in
    let second = again _ _ _ _ _ first in
    let whole = less (barycentric_coordinate c.args.source c.args.axis) (barycentric_coordinate c.args.source c.args.axis) in
    record {
      operands = both_below difference _ _ _ _ _ _ _ _ _ first second;
      part = both_part difference _ _ _ _ _ _ _ _ _ first second (seen_part c.args.self.now.sight c.args.quantity whole c.requires.seen);
    }

pub returns : goal.returns
returns c =
    let few = few_steps c.args.source in
    both_entered difference _ _ _ _ _ _ _ _ _ c.enter_barycentric-own.ensures (again _ _ _ _ _ c.enter_barycentric-own.ensures) _ _ _ (omega (arith, few)) c.enter.ensures
