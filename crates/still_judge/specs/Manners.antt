-- The tree that a judge by still spans walks, by its manner.
use Rattle.std.specs.Prelude.{List}
use Rattle.spec_trees.specs.Tree.{Rules}
use Rattle.spec_searches.specs.Found.{rules}
use Rattle.spec_searches.specs.Search.{Search}
use Rattle.spec_stills.specs.declared.still.StillSpan.{StillSpan}
use Rattle.spec_stills.specs.Eager.{eager_rules}
use Rattle.spec_stills.specs.ServedTree.{served_rules}
use Rattle.still_judge.specs.declared.manner.Manner.{Manner}
use Rattle.still_judge.specs.declared.manner.Manner.TheVariants.{Eager, Exact, Served}

-- that of the search, its eager tree, or its served tree
abbrev pub rules_in : Manner → Search → List StillSpan → Rules
rules_in Exact s xs = rules s
rules_in Eager s xs = eager_rules s xs
rules_in Served s xs = served_rules s xs
