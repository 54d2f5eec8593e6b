use Rattle.event_judge.proofs.Guards.{own_by}
use Rattle.event_judge.proofs.conditions.enclosure_by_own_steps.Goals as goal

pub returns : goal.returns
returns c = own_by _ _ _ c.args.formula.now c.new.result _ c.args.states.now c.enclosure.result c.new.ensures c.of-steps.ensures.sight c.of-steps.ensures.made c.enclosure.ensures.enclosure
