use Rattle.body_states.proofs.points.SingleTimeArithmetic.length.Goals as goal

pub length_interval-requires : goal.length_interval-requires
length_interval-requires c = c.listed_constants_are_within_limits.ensures.lengths _ c.args.km c.requires.part

pub returns : goal.returns
returns c = c.length_interval.ensures.equals
