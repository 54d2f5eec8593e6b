-- A search for an event over the times of an ephemeris: the verdict of each node of its tree, by enclosures alone, and the
-- two parts of a node that is cut. Times are ticks of TDB since J2000.
use Rattle.std.specs.Prelude.{ℕ, ◌+◌, ◌<◌, Bool, ◌&&◌, ◌||◌, nat_lt, int_lt, if◌then◌else◌, map, Option, None, Some, is_some, ℤ, pos, ◌-ℤ◌}
use Rattle.spec_intervals.specs.Fraction.{Fraction}
use Rattle.spec_intervals.specs.Enclosure.{Enclosure}
use Rattle.spec_expressions.specs.Term.{Leaf, Term, enclosure_of}
use Rattle.spec_ephemeris.specs.Borders.{nearest_border}
use Rattle.spec_bodies.specs.Views.{View, IsView, columns_of, exact_state, state_enclosure}
use Rattle.spec_trees.specs.declared.cuts.CutRule.{CutRule}
use Rattle.spec_trees.specs.declared.tree.Node.{Node}
use Rattle.spec_trees.specs.declared.tree.Turn.{Turn}
use Rattle.spec_trees.specs.declared.tree.Verdict.{Verdict}
use Rattle.spec_trees.specs.Cuts.{cut_of, is_wide}
use Rattle.spec_events.specs.Verdict.{Criteria, verdict}
use Rattle.spec_events.specs.Soundness.{GuardEvidence, Evidence, findings_of}
use Rattle.spec_searches.specs.Event.{Condition, Event, AreFormulas, guard_of, events_by}

-- an event of the two targets of a view, the width and the depth down to which nodes are split, and the rule of the cuts
pub record Search : Type 0 where
  pub view : View
  pub event : Event
  pub width : ℕ
  pub depth : ℕ
  pub cut : CutRule

-- what its verdicts are true by: an ephemeris that the view reads, formulas within limits, and some width
pub record IsSearch (s : Search) : Type 0 where
  pub view : IsView s.view
  pub formulas : AreFormulas s.event
  pub some_width : 0 < s.width

abbrev pub criteria : Search → Criteria
criteria s = record { dir = s.event.dir; width = s.width; depth = s.depth }

-- what is searched for
abbrev pub events : Search → Turn → ℤ → Type 0
events s = events_by (exact_state s.view) s.event

-- ---- what is found at a node
-- the enclosure of a formula over the times from a to b, given that of each coordinate over each span
abbrev pub enclosure_over : (Leaf → ℤ → ℤ → Enclosure) → Term → ℤ → ℤ → Enclosure
enclosure_over answer term a b = enclosure_of (λ l. answer l a b) a b term

-- conditions are asked at the one time of a node that is one unit wide, and else over the whole node
abbrev pub guards_from : Node → ℤ
guards_from n = if is_wide n then n.a else n.b

-- given the exact value of each coordinate at each time too
abbrev pub guard_evidence : (Leaf → ℤ → Fraction) → (Leaf → ℤ → ℤ → Enclosure) → Node → Condition → GuardEvidence
guard_evidence exact answer n c = record { guard = guard_of exact c; interval = (enclosure_over answer c.term (guards_from n) n.b).range }

abbrev pub evidence : (Leaf → ℤ → Fraction) → (Leaf → ℤ → ℤ → Enclosure) → Event → Bool → Node → Evidence
evidence exact answer e crosses n = record {
  crosses = crosses;
  first = enclosure_over answer e.function n.a n.a;
  last = enclosure_over answer e.function n.b n.b;
  whole = enclosure_over answer e.function n.a n.b;
  guards = map (guard_evidence exact answer n) e.conditions;
}

-- ---- the verdict
-- the border of the columns in use that is nearest to the middle of a node, if one lies in it
abbrev pub border_in : Search → Node → Option ℤ
border_in s n = nearest_border s.view.ephemeris (columns_of s.view) n.a n.b

abbrev pub crosses : Search → Node → Bool
crosses s n = is_some (border_in s n)

-- by the exact values and the enclosures of the view
abbrev pub evidence_at : Search → Node → Evidence
evidence_at s n = evidence (exact_state s.view) (state_enclosure s.view) s.event (crosses s n) n

unfoldable pub verdict_of : Search → Node → Verdict
verdict_of s n = verdict (criteria s) n (findings_of (evidence_at s n))

-- ---- the parts
-- a node that is wider than one unit, and into which a border falls or which is not as deep as the depth
abbrev pub may_be_cut : Search → Node → Bool
may_be_cut s n = is_wide n && (crosses s n || nat_lt n.depth s.depth)

-- the two parts of a node that is cut at a time, at a depth
abbrev pub parts_at : ℤ → ℕ → Node → Node × Node
parts_at time depth n = (record { a = n.a; b = time; depth = depth }, record { a = time; b = n.b; depth = depth })

-- the time before a border, so that the times up to it and those from it on are apart; or the border, where the time
-- before it is the first
abbrev pub border_cut : Node → ℤ → ℤ
border_cut n border = if int_lt n.a (border -ℤ pos 1) then border -ℤ pos 1 else border

-- a node is cut at the border in it, and its parts keep the depth; or by the rule, and its parts are one deeper
abbrev pub parts_by : CutRule → Option ℤ → Node → Node × Node
parts_by rule (Some border) n = parts_at (border_cut n border) n.depth n
parts_by rule None n = parts_at (cut_of rule n.a n.b) (n.depth + 1) n

abbrev pub parts : Search → Node → Node × Node
parts s n = parts_by s.cut (border_in s n) n
