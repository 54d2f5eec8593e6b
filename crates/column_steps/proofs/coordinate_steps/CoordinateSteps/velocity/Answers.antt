use Rattle.spec_expressions.specs.Term.{velocity as leaf_of}
use Rattle.column_steps.proofs.Framed.{leaf_below, leaf_value}
use Rattle.column_steps.proofs.coordinate_steps.CoordinateSteps.velocity.Goals as goal

pub value-requires-clause-step : goal.value-requires-clause-step
value-requires-clause-step g c = leaf_below c.self.inside.steps c.self.inside.places c.self.invariant (leaf_of c.args.target c.args.axis) (c.requires.target, c.requires.axis) _ c.velocity.ensures

pub returns : goal.returns
returns g c =
    leaf_value c.self.inside.steps c.self.inside.places c.self.invariant (leaf_of c.args.target c.args.axis) (c.requires.target, c.requires.axis) _ c.velocity.ensures
    (g.A.Arithmetic.is_value c.args.arithmetic.now) _ c.self.view_is c.value.result c.value.ensures
