use Rattle.std.proofs.Common.{◌+◌, arith}
use Rattle.spec_expressions.specs.Term.{part_exponent}
use Rattle.event_bounds.proofs.Rules.{is_exponent, size_part, square_step_wide, square_wide}
use Rattle.event_bounds.proofs.times.BoundTimes.signed_square.Goals as goal

pub mul-step-requires-clause-exponent : goal.mul-step-requires-clause-exponent
mul-step-requires-clause-exponent c =
    is_exponent (part_exponent + 1) c.twice_size.result (omega arith) (size_part c.args.x.range _ c.requires.range c.twice_size.ensures)

pub bound-requires-clause-range : goal.bound-requires-clause-range
bound-requires-clause-range c = square_wide c.args.x.range _ c.requires.range c.signed_square-range.ensures.equals

pub bound-requires-clause-step : goal.bound-requires-clause-step
bound-requires-clause-step c =
    square_step_wide c.twice_size.result c.args.x.step _ (size_part c.args.x.range _ c.requires.range c.twice_size.ensures) c.requires.step c.mul-step.ensures.equals
