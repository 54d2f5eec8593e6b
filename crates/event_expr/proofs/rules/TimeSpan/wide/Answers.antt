use Rattle.event_expr.proofs.Steps.{product-fits, centred-is, centred-fits, enclosure-wide}
use Rattle.event_expr.proofs.rules.TimeSpan.wide.Goals as goal

pub add-centred-requires-clause-other_exponent : goal.add-centred-requires-clause-other_exponent
add-centred-requires-clause-other_exponent c =
    product-fits c.args.self.now _ _ c.self.inside.distances c.args.mid c.args.step c.mul.result c.self.view_is c.self.invariant.0 c.self.invariant.1 c.mul.ensures.equals c.requires.mid_within c.requires.step_within

pub meet-requires-clause-other_exponent : goal.meet-requires-clause-other_exponent
meet-requires-clause-other_exponent c =
    centred-fits c.args.self.now _ _ c.self.inside.distances c.args.mid c.args.step c.mul.result c.self.view_is c.self.invariant.0 c.self.invariant.1 c.mul.ensures.equals c.requires.mid_within c.requires.step_within c.add-centred.result c.add-centred.ensures.equals

pub meet-requires-clause-overlap : goal.meet-requires-clause-overlap
meet-requires-clause-overlap c =
    rw (centred-is c.args.self.now _ _ c.self.inside.distances c.args.mid c.args.step c.mul.result c.self.view_is c.self.invariant.0 c.self.invariant.1 c.mul.ensures.equals c.requires.mid_within c.requires.step_within c.add-centred.result c.add-centred.ensures.equals) c.requires.shared

pub returns : goal.returns
returns c =
    enclosure-wide c.args.self.now.first c.args.self.now.last c.requires.several c.args.mid c.args.plain c.args.step c.meet.result c.add-centred.result (centred-is c.args.self.now _ _ c.self.inside.distances c.args.mid c.args.step c.mul.result c.self.view_is c.self.invariant.0 c.self.invariant.1 c.mul.ensures.equals c.requires.mid_within c.requires.step_within c.add-centred.result c.add-centred.ensures.equals) c.meet.ensures.equals
