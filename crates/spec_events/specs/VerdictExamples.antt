-- The rows of the worked verdicts.
use Rattle.std.specs.Prelude.{ℕ, Bool, true, false, List, [], ◌∷◌, ℤ, pos, ◌-ℤ◌}
use Rattle.spec_intervals.specs.declared.signs.Sign.{Sign}
use Rattle.spec_intervals.specs.declared.signs.Sign.TheVariants.{Yes, Open}
use Rattle.spec_intervals.specs.Interval.{Interval, interval, zero_interval}
use Rattle.spec_intervals.specs.Fraction.{Fraction, fraction}
use Rattle.spec_intervals.specs.Signs.{sign_of}
use Rattle.spec_trees.specs.declared.tree.Node.{Node}
use Rattle.spec_trees.specs.declared.tree.Verdict.{Verdict}
use Rattle.spec_events.specs.declared.dir.Dir.{Dir}
use Rattle.spec_events.specs.declared.dir.Dir.TheVariants as D
use Rattle.spec_events.specs.Functions.{Guard}
use Rattle.spec_events.specs.Verdict.{Criteria, Findings, GuardFinding, verdict}

abbrev pub criteria : Dir → ℕ → ℕ → Criteria
criteria dir width depth = record { dir = dir; width = width; depth = depth }

abbrev pub node_at : ℤ → ℤ → ℕ → Node
node_at a b depth = record { a = a; b = b; depth = depth }

-- the time at which the line of the examples passes 0
abbrev pub passing : ℤ
passing = pos 1339200

-- x = t - passing, in km
abbrev pub line : ℤ → Fraction
line t = fraction (t -ℤ passing) 1

-- a guard that is 2 * 10^12 at each time, and has to be at least 0 or below 0
abbrev pub constant_guard : Bool → Guard
constant_guard at_least = record { exact = λ t. fraction (pos 2000000000000) 1; at_least = at_least }

-- what holds the line from time a to time b
abbrev pub line_range : ℤ → ℤ → Interval
line_range a b = interval (a -ℤ passing) (b -ℤ passing) (pos 0)

-- what is found of the line from a to b, with these guards: it grows by 1 a tick
abbrev pub line_findings : ℤ → ℤ → List GuardFinding → Findings
line_findings a b guards = record {
  crosses = false;
  at_first = sign_of (line_range a a);
  at_last = sign_of (line_range b b);
  over = sign_of (line_range a b);
  step = interval (pos 1) (pos 1) (pos 0);
  guards = guards;
}

abbrev pub line_verdict : Criteria → Node → Verdict
line_verdict c n = verdict c n (line_findings n.a n.b [])

-- a guard whose interval has the sign Yes
abbrev pub positive_guard : Bool → GuardFinding
positive_guard at_least = record { at_least = at_least; sign = Yes }

-- the verdict of the last tick before the line passes 0, with one guard
abbrev pub guarded_verdict : Bool → Verdict
guarded_verdict at_least =
    verdict (criteria D.Any 1 40) (node_at (passing -ℤ pos 1) passing 21) (line_findings (passing -ℤ pos 1) passing (positive_guard at_least ∷ []))

-- what is found of a value so near 0 that no sign is known, and that does not change
abbrev pub nothing_known : Findings
nothing_known = record { crosses = false; at_first = Open; at_last = Open; over = Open; step = zero_interval; guards = [] }

-- a node into which a border falls: signs at its ends alone
abbrev pub border_findings : Sign → Sign → Findings
border_findings first last = record { crosses = true; at_first = first; at_last = last; over = Open; step = zero_interval; guards = [] }
