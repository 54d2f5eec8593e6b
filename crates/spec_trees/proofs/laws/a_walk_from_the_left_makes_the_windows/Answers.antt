use Rattle.spec_trees.proofs.Runs.{joined_are_windows}
use Rattle.spec_trees.proofs.laws.a_walk_from_the_left_makes_the_windows.Goals as goal

pub returns : goal.returns
returns c = record { same = λ ls. joined_are_windows ls }
