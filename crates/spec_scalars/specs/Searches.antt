-- The search for the times at which a scalar passes 0.
use Rattle.std.specs.Prelude.{◌+◌, ◌<◌, ℤ, false, List, [], pos}
use Rattle.spec_intervals.specs.Enclosure.{Enclosure, triple}
use Rattle.spec_intervals.specs.Fraction.{Fraction, fraction}
use Rattle.spec_intervals.specs.Interval.{Interval, interval}
use Rattle.spec_trees.specs.declared.tree.Node.{Node}
use Rattle.spec_trees.specs.declared.tree.Turn.{Turn}
use Rattle.spec_trees.specs.declared.tree.Verdict.{Verdict}
use Rattle.spec_trees.specs.declared.window.Window.{Window}
use Rattle.spec_trees.specs.Cuts.{cut_of}
use Rattle.spec_trees.specs.Tree.{Rules, leaves}
use Rattle.spec_trees.specs.Windows.{windows}
use Rattle.spec_events.specs.Functions.{EventsOf}
use Rattle.spec_events.specs.Soundness.{Evidence, findings_of}
use Rattle.spec_events.specs.Verdict.{Criteria, verdict}
use Rattle.spec_judged.specs.Judged.{Judged}
use Rattle.spec_judged.specs.Judged as judged
use Rattle.spec_scalars.specs.declared.plan.Plan.{Plan}
use Rattle.spec_scalars.specs.declared.reach.Reach.{Reach}
use Rattle.spec_scalars.specs.Scalars.{Scalar, IsScalar, within}

-- a scalar, and how it is searched
pub record Search : Type 0 where
  pub scalar : Scalar
  pub plan : Plan

pub record IsSearch (s : Search) : Type 0 where
  pub scalar : IsScalar s.scalar
  pub some_width : 0 < s.plan.width

-- the search of a scalar over these times
abbrev pub search_over : Scalar → ℤ → ℤ → Plan → Search
search_over scalar first last plan = record { scalar = within first last scalar; plan = plan }

-- the value as a fraction
abbrev pub exact : (ℤ → ℤ) → ℤ → Fraction
exact at t = fraction (at t) 1

-- what is searched for: the scalar passes 0 in a wanted direction
abbrev pub events : Search → Turn → ℤ → Type 0
events s = EventsOf (exact s.scalar.at) s.plan.dir []

-- ---- what is found at a node, by what is known alone
-- what holds its value, and what holds its change from each time to the next
abbrev pub range_of : Reach → Interval
range_of r = interval r.lo r.hi (pos 0)

abbrev pub step_of : Reach → Interval
step_of r = interval r.step_lo r.step_hi (pos 0)

abbrev pub enclosure_of : Reach → Enclosure
enclosure_of r = triple (range_of r) (range_of r) (step_of r)

abbrev pub evidence_at : Search → Node → Evidence
evidence_at s n = record {
  crosses = false;
  first = enclosure_of (s.scalar.reach n.a n.a);
  last = enclosure_of (s.scalar.reach n.b n.b);
  whole = enclosure_of (s.scalar.reach n.a n.b);
  guards = [];
}

abbrev pub criteria_of : Plan → Criteria
criteria_of plan = record { dir = plan.dir; width = plan.width; depth = plan.depth }

abbrev pub criteria : Search → Criteria
criteria s = criteria_of s.plan

-- the verdict of events, with no border and no guard
unfoldable pub verdict_of : Search → Node → Verdict
verdict_of s n = verdict (criteria s) n (findings_of (evidence_at s n))

-- ---- the tree
-- the parts of a node that is cut at a time are one deeper
abbrev pub cut_at : ℤ → Node → Node × Node
cut_at time n = (record { a = n.a; b = time; depth = n.depth + 1 }, record { a = time; b = n.b; depth = n.depth + 1 })

abbrev pub rules : Search → Rules
rules s = record {
  first = s.scalar.first;
  last = s.scalar.last;
  deepest = s.plan.depth;
  verdict = verdict_of s;
  parts = λ n. cut_at (cut_of s.plan.cut n.a n.b) n;
}

-- the times after the first and up to the last
abbrev pub span : ℤ → ℤ → Node
span from upto = record { a = from; b = upto; depth = 0 }

-- the windows of the leaves of a node
abbrev pub windows_of : Search → Node → List Window
windows_of s n = windows (leaves (rules s) n)

-- what is found of its scalar at each node of its tree
abbrev pub judged_by : Search → Judged
judged_by s = record {
  rules = rules s;
  exact = exact s.scalar.at;
  guards = [];
  dir = s.plan.dir;
  width = s.plan.width;
  evidence = evidence_at s;
}

-- a leaf of the tree of this node that is left undecided, no wider than the width or as deep as the depth
abbrev pub IsLeftUndecided : Search → Node → Node → Type 0
IsLeftUndecided s top = judged.IsLeftUndecided (judged_by s) (leaves (rules s) top)
