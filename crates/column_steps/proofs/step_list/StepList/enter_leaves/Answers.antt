use Rattle.std.proofs.Common.{arith}
use Rattle.column_steps.proofs.Entered.{grows_on}
use Rattle.column_steps.proofs.Framed.{moved_along}
use Rattle.column_steps.proofs.step_list.StepList.enter_leaves.Goals as goal

pub returns-clause-grown : goal.returns-clause-grown
returns-clause-grown c =
    let positions = grows_on _ _ _ 30 30 60 (omega arith) c.enter_target-first_position.ensures.grown c.enter_target-second_position.ensures.grown in
    let velocities = grows_on _ _ _ 30 30 60 (omega arith) c.enter_target-first_velocity.ensures.grown c.enter_target-second_velocity.ensures.grown in
    grows_on _ _ _ 60 60 120 (omega arith) positions velocities

pub returns-clause-first_position : goal.returns-clause-first_position
returns-clause-first_position c =
    let velocities = grows_on _ _ _ 30 30 60 (omega arith) c.enter_target-first_velocity.ensures.grown c.enter_target-second_velocity.ensures.grown in
    let later = grows_on _ _ _ 30 60 90 (omega arith) c.enter_target-second_position.ensures.grown velocities in
    moved_along _ _ 90 _ 0 _ _ later c.enter_target-first_position.ensures.made

pub returns-clause-second_position : goal.returns-clause-second_position
returns-clause-second_position c =
    let velocities = grows_on _ _ _ 30 30 60 (omega arith) c.enter_target-first_velocity.ensures.grown c.enter_target-second_velocity.ensures.grown in
    moved_along _ _ 60 _ 1 _ _ velocities c.enter_target-second_position.ensures.made

pub returns-clause-first_velocity : goal.returns-clause-first_velocity
returns-clause-first_velocity c = moved_along _ _ 30 _ 0 _ _ c.enter_target-second_velocity.ensures.grown c.enter_target-first_velocity.ensures.made

pub returns-clause-second_velocity : goal.returns-clause-second_velocity
returns-clause-second_velocity c = c.enter_target-second_velocity.ensures.made
