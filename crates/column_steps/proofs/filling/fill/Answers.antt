use Rattle.std.proofs.Common.{◌≡◌, ◌∙◌, ℕ, arith, subst}
use Rattle.std.proofs.lemmas.List.{length-set}
use Rattle.spec_steps.specs.Steps.{terms_of}
use Rattle.column_steps.specs.Values.{AreValues}
use Rattle.column_steps.proofs.Values.{value_more}
use Rattle.column_steps.proofs.filling.fill.Goals as goal

pub loop-place-preserved : goal.loop-place-preserved
loop-place-preserved g c =
    let below = c.loop-place-test.true in
    let few = c.requires.room in
    let room = c.loop-place.invariant.room in
    record {
      room = length-set c.loop-place.slots c.loop-place.place _ ∙ room;
      order = omega (arith, below);
      values = value_more (g.A.Arithmetic.is_value c.args.arithmetic.now) (terms_of c.args.steps.now.steps) c.loop-place.place c.loop-place.slots c.value_from_slots.result (omega (arith, below, few, room)) c.loop-place.invariant.values c.value_from_slots.ensures;
    }

pub returns-clause-values : goal.returns-clause-values
returns-clause-values g c =
    let past = c.loop-place-test.false in
    let order = c.loop-place.invariant.order in
    let own : c.loop-place.place ≡ c.args.upto = omega (arith, past, order) in
    subst (λ (n : ℕ). AreValues (g.A.Arithmetic.is_value c.args.arithmetic.now) (terms_of c.args.steps.now.steps) n c.loop-place.slots) own c.loop-place.invariant.values
