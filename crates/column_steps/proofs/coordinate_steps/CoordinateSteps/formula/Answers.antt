use Rattle.std.proofs.Common.{◌∙◌, IsTrue, ap, arith, refl, subst, sym}
use Rattle.event_expr.specs.declared.leaves.Leaves.{Leaves}
use Rattle.event_expr.specs.Leaves.{has_leaf, leaves_of}
use Rattle.spec_expressions.specs.Term.{position, term, velocity}
use Rattle.column_steps.specs.Listed.{listed_term}
use Rattle.column_steps.specs.Places.{entry_of}
use Rattle.column_steps.proofs.Framed.{leaf_entry, leaf_value}
use Rattle.column_steps.proofs.coordinate_steps.CoordinateSteps.formula.Goals as goal

pub axis_values-first_position-requires-clause-steps : goal.axis_values-first_position-requires-clause-steps
axis_values-first_position-requires-clause-steps g c = λ axis three. (c.self.invariant (position 0 axis) (omega arith, three)).below

pub axis_values-second_position-requires-clause-steps : goal.axis_values-second_position-requires-clause-steps
axis_values-second_position-requires-clause-steps g c = λ axis three. (c.self.invariant (position 1 axis) (omega arith, three)).below

pub axis_values-first_velocity-requires-clause-steps : goal.axis_values-first_velocity-requires-clause-steps
axis_values-first_velocity-requires-clause-steps g c = λ axis three. (c.self.invariant (velocity 0 axis) (omega arith, three)).below

pub axis_values-second_velocity-requires-clause-steps : goal.axis_values-second_velocity-requires-clause-steps
axis_values-second_velocity-requires-clause-steps g c = λ axis three. (c.self.invariant (velocity 1 axis) (omega arith, three)).below

pub expression_value-requires-clause-named : goal.expression_value-requires-clause-named
expression_value-requires-clause-named g c = λ leaf is named.
    let is_value = g.A.Arithmetic.is_value c.args.arithmetic.now in
    let steps = c.self.inside.steps in
    let places = c.self.inside.places in
    let same = ap leaves_of c.expr.ensures.whole ∙ sym c.leaves-wanted.ensures in
    let has = subst (λ (w : Leaves). IsTrue (has_leaf w leaf)) same ((c.sets_have_what_is_named.ensures (term c.expr.result.now) c.expr.ensures.formula.leaves leaf is).1 named) in
    leaf_value steps places c.self.invariant leaf is _ refl is_value _ (c.self.view_is ∙ sym c.requires.sight) _
    (leaf_entry (λ l v. is_value (listed_term steps (entry_of places l)) v) c.leaves-wanted.result _ c.axis_values-first_position.ensures c.axis_values-second_position.ensures c.axis_values-first_velocity.ensures c.axis_values-second_velocity.ensures leaf is has)

pub returns : goal.returns
returns g c = rw (c.requires.sight, c.expr.ensures.whole) at c.expression_value.ensures
