use Rattle.spec_outcomes.proofs.Following.{all_have_time}
use Rattle.gf_find.proofs.find.report_of_leaves.Goals as goal

pub leaf_windows-requires : goal.leaf_windows-requires
leaf_windows-requires c = all_have_time _ _ c.args.leaves.now c.requires.follow
