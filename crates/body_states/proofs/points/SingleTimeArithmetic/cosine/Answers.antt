use Rattle.body_states.proofs.points.SingleTimeArithmetic.cosine.Goals as goal

pub cosine_interval-requires : goal.cosine_interval-requires
cosine_interval-requires c = c.listed_constants_are_within_limits.ensures.cosines _ c.args.number c.requires.part

pub returns : goal.returns
returns c = c.cosine_interval.ensures.equals
