use Rattle.std.proofs.Common.{◌-ℤ◌, ◌||◌, nat_lt}
use Rattle.spec_searches.specs.Search.{crosses}
use Rattle.spec_outcomes.proofs.Cutting.{cut_above, cut_at_border, not_below, not_narrow}
use Rattle.spec_outcomes.proofs.laws.nodes_may_be_cut_further.Goals as goal

pub returns-clause-above : goal.returns-clause-above
returns-clause-above c = λ s n wide above. cut_above (n.b -ℤ n.a) (crosses s n) n.depth s.depth wide above

pub returns-clause-border : goal.returns-clause-border
returns-clause-border c = λ s n wide border. cut_at_border (n.b -ℤ n.a) (crosses s n) (nat_lt n.depth s.depth) wide border

pub returns-clause-narrow : goal.returns-clause-narrow
returns-clause-narrow c = λ s n narrow. not_narrow (n.b -ℤ n.a) (crosses s n || nat_lt n.depth s.depth) narrow

pub returns-clause-below : goal.returns-clause-below
returns-clause-below c = λ s n inside below. not_below (n.b -ℤ n.a) (crosses s n) n.depth s.depth inside below
