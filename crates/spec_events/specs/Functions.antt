-- When an event of a function happens. The function's exact value at a time is a fraction, and guards are functions that
-- have to be at least 0, or below 0, at the time of an event.
use Rattle.std.specs.Prelude.{Bool, true, false, List, All, ℤ, pos, ◌≤ℤ◌, ◌<ℤ◌}
use Rattle.spec_intervals.specs.Fraction.{Fraction}
use Rattle.spec_trees.specs.declared.tree.Turn.{Turn}
use Rattle.spec_events.specs.declared.dir.Dir.{Dir}
use Rattle.spec_events.specs.Events.{IsWantedTurn}

-- the exact value is at least 0
abbrev pub IsNotNegative : (ℤ → Fraction) → ℤ → Type 0
IsNotNegative exact t = pos 0 ≤ℤ (exact t).numerator

-- the exact value is below 0
abbrev pub IsNegative : (ℤ → Fraction) → ℤ → Type 0
IsNegative exact t = (exact t).numerator <ℤ pos 0

-- a function, and whether it has to be at least 0 or below 0
pub record Guard : Type 0 where
  pub exact : ℤ → Fraction
  pub at_least : Bool

-- at least 0, or below 0
abbrev pub IsOnSide : Bool → (ℤ → Fraction) → ℤ → Type 0
IsOnSide true exact t = IsNotNegative exact t
IsOnSide false exact t = IsNegative exact t

abbrev pub GuardHolds : Guard → ℤ → Type 0
GuardHolds g t = IsOnSide g.at_least g.exact t

-- every guard holds
abbrev pub GuardsHold : List Guard → ℤ → Type 0
GuardsHold guards t = All (λ g. GuardHolds g t) guards

-- the events of a function: it passes 0 in a wanted direction, and every guard holds
abbrev pub EventsOf : (ℤ → Fraction) → Dir → List Guard → Turn → ℤ → Type 0
EventsOf exact dir guards = IsWantedTurn (IsNotNegative exact) dir (GuardsHold guards)
