use Rattle.std.proofs.Common.{arith}
use Rattle.spec_bodies.specs.declared.factor.Factor.TheVariants.{MoonShare}
use Rattle.spec_bodies.specs.declared.source.TheConstants.{EMB_COLUMN, MOON_COLUMN}
use Rattle.spec_bodies.specs.Coordinates.{earth, of_column, times}
use Rattle.spec_steps.specs.ColumnTerms.{difference}
use Rattle.spec_steps.proofs.Parts.{less_seen, seen_part}
use Rattle.column_steps.proofs.Entered.{both_entered, can_enter_difference, still_seen}
use Rattle.column_steps.proofs.step_list.StepList.enter_earth.Goals as goal

pub enter_column-pair-requires-clause-seen : goal.enter_column-pair-requires-clause-seen
enter_column-pair-requires-clause-seen c = (less_seen _ (of_column EMB_COLUMN c.args.axis) (times MoonShare (of_column MOON_COLUMN c.args.axis)) c.requires.seen).0

pub enter_moons_share-share-requires-clause-seen : goal.enter_moons_share-share-requires-clause-seen
enter_moons_share-share-requires-clause-seen c =
    still_seen _ _ _ _ c.enter_column-pair.ensures.grown
    (less_seen _ (of_column EMB_COLUMN c.args.axis) (times MoonShare (of_column MOON_COLUMN c.args.axis)) c.requires.seen).1

pub enter-requires-clause-step : goal.enter-requires-clause-step
enter-requires-clause-step c = can_enter_difference _ _ _ _ _ _ _ _ _ c.enter_column-pair.ensures c.enter_moons_share-share.ensures (seen_part c.args.self.now.sight c.args.quantity (earth c.args.axis) c.requires.seen)

pub returns : goal.returns
returns c = both_entered difference _ _ _ _ _ _ _ _ _ c.enter_column-pair.ensures c.enter_moons_share-share.ensures _ _ _ (omega arith) c.enter.ensures
