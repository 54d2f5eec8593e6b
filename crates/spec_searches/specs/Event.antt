-- What is searched for: an event of a function of two bodies, with conditions at its time, all of them formulas of the
-- bodies' coordinates.
use Rattle.std.specs.Prelude.{Bool, List, All, map, ℤ}
use Rattle.spec_intervals.specs.Fraction.{Fraction}
use Rattle.spec_expressions.specs.Term.{Leaf, Term, IsFormula, exact_of}
use Rattle.spec_trees.specs.declared.tree.Turn.{Turn}
use Rattle.spec_events.specs.declared.dir.Dir.{Dir}
use Rattle.spec_events.specs.Functions.{Guard, EventsOf}

-- a formula that has to be at least 0, or below 0
pub record Condition : Type 0 where
  pub term : Term
  pub at_least : Bool

-- the function passes 0 in a wanted direction, and every condition holds then
pub record Event : Type 0 where
  pub function : Term
  pub conditions : List Condition
  pub dir : Dir

abbrev pub IsCondition : Condition → Type 0
IsCondition c = IsFormula c.term

pub record AreFormulas (e : Event) : Type 0 where
  pub function : IsFormula e.function
  pub conditions : All IsCondition e.conditions

-- ---- given the exact value of each coordinate at each time
abbrev pub guard_of : (Leaf → ℤ → Fraction) → Condition → Guard
guard_of leaf c = record { exact = exact_of leaf c.term; at_least = c.at_least }

-- the times at which the event happens, by the direction of its turn
abbrev pub events_by : (Leaf → ℤ → Fraction) → Event → Turn → ℤ → Type 0
events_by leaf e = EventsOf (exact_of leaf e.function) e.dir (map (guard_of leaf) e.conditions)
