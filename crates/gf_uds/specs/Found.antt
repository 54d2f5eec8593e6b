-- What is found at the nodes of a scalar's search, as the judge asks it.
use Rattle.std.specs.Prelude.{Bool, ◌||◌, not}
use Rattle.spec_intervals.specs.declared.signs.Sign.{Sign}
use Rattle.spec_intervals.specs.Signs.{sign_of}
use Rattle.spec_trees.specs.declared.tree.Node.{Node}
use Rattle.spec_trees.specs.Cuts.{is_wide}
use Rattle.spec_events.specs.Stages.{is_turnless}
use Rattle.spec_events.specs.Verdict.{is_one_way}
use Rattle.spec_scalars.specs.declared.plan.Plan.{Plan}
use Rattle.spec_scalars.specs.declared.reach.Reach.{Reach}
use Rattle.spec_scalars.specs.Searches.{range_of, step_of}

-- the sign of what lies between the bounds of a reach
abbrev pub reach_sign : Reach → Sign
reach_sign r = sign_of (range_of r)

-- by what is known over a whole node it has no turn that is wanted
abbrev pub is_turnless_by : Plan → Reach → Bool
is_turnless_by plan whole = is_turnless plan.dir (reach_sign whole) (step_of whole)

-- the ends of the node tell the turns between them
abbrev pub is_steady_by : Node → Reach → Bool
is_steady_by n whole = not (is_wide n) || is_one_way (step_of whole)
