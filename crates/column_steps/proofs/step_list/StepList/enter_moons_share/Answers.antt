use Rattle.std.proofs.Common.{arith}
use Rattle.spec_bodies.specs.declared.factor.Factor.TheVariants.{MoonShare}
use Rattle.spec_bodies.specs.declared.source.TheConstants.{MOON_COLUMN}
use Rattle.spec_bodies.specs.Coordinates.{of_column, times}
use Rattle.spec_steps.specs.ColumnTerms.{scaled}
use Rattle.spec_steps.proofs.Parts.{seen_part, times_seen}
use Rattle.column_steps.proofs.Entered.{one_entered, one_part}
use Rattle.column_steps.proofs.step_list.StepList.enter_moons_share.Goals as goal

pub enter_column-moon-requires-clause-seen : goal.enter_column-moon-requires-clause-seen
enter_column-moon-requires-clause-seen c = times_seen c.args.self.now.sight MoonShare (of_column MOON_COLUMN c.args.axis) c.requires.seen

pub enter-requires-clause-step : goal.enter-requires-clause-step
enter-requires-clause-step c =
    let first = c.enter_column-moon.ensures in
    record {
      operands = first.stands.below;
      part = one_part (scaled MoonShare) _ _ _ _ _ first (seen_part c.args.self.now.sight c.args.quantity (times MoonShare (of_column MOON_COLUMN c.args.axis)) c.requires.seen);
    }

pub returns : goal.returns
returns c = one_entered (scaled MoonShare) _ _ _ _ _ c.enter_column-moon.ensures _ _ _ (omega arith) c.enter.ensures
