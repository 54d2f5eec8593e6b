use Rattle.std.proofs.Common.{arith}
use Rattle.column_steps.proofs.Entered.{enters_more}
use Rattle.column_steps.proofs.step_list.StepList.enter_displacement_from_earth.Goals as goal

pub enter_difference-requires-clause-seen : goal.enter_difference-requires-clause-seen
enter_difference-requires-clause-seen c = rw c.in-OwnColumn.is at c.requires.seen

pub returns-in-OwnColumn : goal.returns-in-OwnColumn
returns-in-OwnColumn c = rw c.in-OwnColumn.is c.enter_difference.ensures

pub enter_difference_from_itself-requires-clause-seen : goal.enter_difference_from_itself-requires-clause-seen
enter_difference_from_itself-requires-clause-seen c = rw c.in-EarthOfPair.is at c.requires.seen

pub returns-in-EarthOfPair : goal.returns-in-EarthOfPair
returns-in-EarthOfPair c = rw c.in-EarthOfPair.is c.enter_difference_from_itself.ensures

pub enter_column-requires-clause-seen : goal.enter_column-requires-clause-seen
enter_column-requires-clause-seen c = rw c.in-MoonOfPair.is at c.requires.seen

pub returns-in-MoonOfPair : goal.returns-in-MoonOfPair
returns-in-MoonOfPair c = rw c.in-MoonOfPair.is (enters_more _ _ 1 8 _ _ (omega arith) c.enter_column.ensures)

pub enter_difference-requires-in-Origin-clause-seen : goal.enter_difference-requires-in-Origin-clause-seen
enter_difference-requires-in-Origin-clause-seen c = rw c.in-Origin.is at c.requires.seen

pub returns-in-Origin : goal.returns-in-Origin
returns-in-Origin c = rw c.in-Origin.is c.enter_difference-in-Origin.ensures
