-- The interval that holds the steps of a function.
use Rattle.std.specs.Prelude.{pos}
use Rattle.spec_intervals.specs.Interval.{Interval, interval}
use Rattle.gf_hooks.specs.declared.steps.Steps.{Steps}

abbrev pub steps_interval : Steps → Interval
steps_interval s = interval s.lo s.hi (pos 0)
