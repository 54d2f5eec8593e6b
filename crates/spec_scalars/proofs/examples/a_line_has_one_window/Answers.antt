use Rattle.std.proofs.Common.{refl}
use Rattle.spec_trees.specs.Tree.{leaves, leaves_within}
use Rattle.spec_events.specs.Verdict.{verdict}
use Rattle.spec_scalars.specs.Searches.{verdict_of}
use Rattle.spec_scalars.proofs.examples.a_line_has_one_window.Goals as goal

pub returns : goal.returns
unfolding leaves leaves_within verdict verdict_of
returns c = record { found = refl; undecided = refl }
