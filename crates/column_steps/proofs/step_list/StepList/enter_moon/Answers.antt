use Rattle.std.proofs.Common.{arith}
use Rattle.spec_bodies.specs.declared.source.TheConstants.{MOON_COLUMN}
use Rattle.spec_bodies.specs.Coordinates.{earth, moon, of_column}
use Rattle.spec_steps.specs.ColumnTerms.{sum}
use Rattle.spec_steps.proofs.Parts.{plus_seen, seen_part}
use Rattle.column_steps.proofs.Entered.{both_entered, can_enter_sum, still_seen}
use Rattle.column_steps.proofs.step_list.StepList.enter_moon.Goals as goal

pub enter_earth-earth-requires-clause-seen : goal.enter_earth-earth-requires-clause-seen
enter_earth-earth-requires-clause-seen c = (plus_seen _ (earth c.args.axis) (of_column MOON_COLUMN c.args.axis) c.requires.seen).0

pub enter_column-moon-requires-clause-seen : goal.enter_column-moon-requires-clause-seen
enter_column-moon-requires-clause-seen c = still_seen _ _ _ _ c.enter_earth-earth.ensures.grown (plus_seen _ (earth c.args.axis) (of_column MOON_COLUMN c.args.axis) c.requires.seen).1

pub enter-requires-clause-step : goal.enter-requires-clause-step
enter-requires-clause-step c = can_enter_sum _ _ _ _ _ _ _ _ _ c.enter_earth-earth.ensures c.enter_column-moon.ensures (seen_part c.args.self.now.sight c.args.quantity (moon c.args.axis) c.requires.seen)

pub returns : goal.returns
returns c = both_entered sum _ _ _ _ _ _ _ _ _ c.enter_earth-earth.ensures c.enter_column-moon.ensures _ _ _ (omega arith) c.enter.ensures
