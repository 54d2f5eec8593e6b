-- What is read of the states over one span of times.
use Rattle.std.specs.Prelude.{List, map, ℤ}
use Rattle.spec_intervals.specs.declared.signs.Sign.{Sign}
use Rattle.spec_intervals.specs.Signs.{sign_of}
use Rattle.spec_expressions.specs.Term.{Term}
use Rattle.spec_bodies.specs.Views.{View}
use Rattle.spec_events.specs.Verdict.{GuardFinding}
use Rattle.spec_searches.specs.Event.{Condition}
use Rattle.body_states.specs.Moments.{Moment, enclosure_in}

abbrev pub moment : View → ℤ → ℤ → Moment
moment v a b = record { view = v; first = a; last = b }

-- the sign of a formula
abbrev pub sign_in : Moment → Term → Sign
sign_in m term = sign_of (enclosure_in m term).range

-- what is found of a condition, and of all
abbrev pub finding_in : Moment → Condition → GuardFinding
finding_in m c = record { at_least = c.at_least; sign = sign_in m c.term }

abbrev pub findings_in : Moment → List Condition → List GuardFinding
findings_in m conditions = map (finding_in m) conditions
