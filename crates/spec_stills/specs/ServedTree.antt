-- The served tree of a search: a node that a still span serves is clear, and any other is what it is. Beside it, what leaves
-- tell of the sign of the function.
use Rattle.std.specs.Prelude.{◌≡◌, List, ℤ, ◌≤ℤ◌, if◌then◌else◌}
use Rattle.spec_trees.specs.declared.tree.Leaf.{Leaf}
use Rattle.spec_trees.specs.declared.tree.Node.{Node}
use Rattle.spec_trees.specs.declared.tree.Verdict.{Verdict}
use Rattle.spec_trees.specs.declared.tree.Verdict.TheVariants.{Clear}
use Rattle.spec_trees.specs.Tree.{Rules}
use Rattle.spec_sets.specs.Signs.{sign_of_leaves}
use Rattle.spec_searches.specs.Found.{rules}
use Rattle.spec_searches.specs.Search.{Search, verdict_of}
use Rattle.spec_bounds.specs.Steady.{sign_at}
use Rattle.spec_stills.specs.declared.still.StillSpan.{StillSpan}
use Rattle.spec_stills.specs.Still.{is_served}

abbrev pub served_verdict : Search → List StillSpan → Node → Verdict
served_verdict s xs n = if is_served s xs n then Clear else verdict_of s n

abbrev pub served_rules : Search → List StillSpan → Rules
served_rules s xs = record (rules s) { verdict = served_verdict s xs }

-- two lists of leaves from one time on tell the same sign at each time up to another
abbrev pub TellTheSame : Search → ℤ → List Leaf → List Leaf → ℤ → Type 0
TellTheSame s from ls ms upto = (t : ℤ) → t ≤ℤ upto → sign_of_leaves (sign_at s) from ls t ≡ sign_of_leaves (sign_at s) from ms t
