use Rattle.std.proofs.Common.{arith}
use Rattle.column_steps.proofs.step_list.StepList.axis_values.Goals as goal

pub value_if-requires-clause-step : goal.value_if-requires-clause-step
value_if-requires-clause-step g c = c.requires.steps 0 (omega arith)

pub value_if-requires-2-clause-step : goal.value_if-requires-2-clause-step
value_if-requires-2-clause-step g c = c.requires.steps 1 (omega arith)

pub value_if-requires-3-clause-step : goal.value_if-requires-3-clause-step
value_if-requires-3-clause-step g c = c.requires.steps 2 (omega arith)
