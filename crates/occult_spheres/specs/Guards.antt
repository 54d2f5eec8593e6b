-- A formula with whether it has to be at least 0 or below 0, as a condition.
use Rattle.std.specs.Prelude.{Bool}
use Rattle.spec_expressions.specs.Term.{Term}
use Rattle.spec_searches.specs.Event.{Condition}

abbrev pub condition_of : Term × Bool → Condition
condition_of guard = record { term = guard.0; at_least = guard.1 }
