-- When a function is 0, and when conditions hold, given the exact coordinates.
use Rattle.std.specs.Prelude.{◌≡◌, List, map, ℤ, pos}
use Rattle.spec_intervals.specs.Fraction.{Fraction}
use Rattle.spec_expressions.specs.Term.{Leaf, Term, exact_of}
use Rattle.spec_events.specs.Functions.{GuardsHold}
use Rattle.spec_searches.specs.Event.{Condition, guard_of}

-- the term is 0 at a time
abbrev pub Is0 : (Leaf → ℤ → Fraction) → Term → ℤ → Type 0
Is0 exact term t = (exact_of exact term t).numerator ≡ pos 0

-- every condition holds at a time
abbrev pub Hold : (Leaf → ℤ → Fraction) → List Condition → ℤ → Type 0
Hold exact conditions t = GuardsHold (map (guard_of exact) conditions) t
