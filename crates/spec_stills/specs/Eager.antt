-- The eager tree of a search: a node that a still span serves is clear, one in which a still span begins is split without being
-- judged, down to the limits of the search, and any other is what it is.
use Rattle.std.specs.Prelude.{Bool, ◌&&◌, List, if◌then◌else◌, int_le, int_lt}
use Rattle.std.specs.List.{list_any}
use Rattle.spec_trees.specs.declared.tree.Node.{Node}
use Rattle.spec_trees.specs.declared.tree.Verdict.{Verdict}
use Rattle.spec_trees.specs.declared.tree.Verdict.TheVariants.{Clear, Split}
use Rattle.spec_trees.specs.Tree.{Rules}
use Rattle.spec_events.specs.Stages.{is_above_limits}
use Rattle.spec_searches.specs.Found.{rules}
use Rattle.spec_searches.specs.Search.{Search, criteria, verdict_of}
use Rattle.spec_stills.specs.declared.still.StillSpan.{StillSpan}
use Rattle.spec_stills.specs.Still.{is_served}

-- one of the spans begins in the node: at its first time or later, and before its last
abbrev pub begin_in : List StillSpan → Node → Bool
begin_in xs n = list_any (λ x. int_le n.a x.from && int_lt x.from n.b) xs

abbrev pub eager_verdict : Search → List StillSpan → Node → Verdict
eager_verdict s xs n =
    if is_served s xs n then Clear
    else if begin_in xs n && is_above_limits (criteria s) n then Split
    else verdict_of s n

abbrev pub eager_rules : Search → List StillSpan → Rules
eager_rules s xs = record (rules s) { verdict = eager_verdict s xs }
