use Rattle.std.proofs.Common.{arith, ◌≡◌, ◌∙◌, ◌^◌, ◌<◌, ◌≤◌, rules, ap, get_or, pos, length, length-set, to_z, of_z, unsigned_abs, w64}
use Rattle.span_models.specs.Sizes.{settled_limit}
use Rattle.span_models.proofs.Numbers.{are_halved, are_within, number_small}
use mir.Syntax.{w128}
use mir.Val.{SFits}
use Rattle.spec_numbers.specs.Numbers.{floor_div}
use Rattle.span_models.proofs.Filled.{one_more}
use Rattle.span_models.proofs.settling.rounded_coefficients.Goals as goal

pub returns-clause-equals : goal.returns-clause-equals
returns-clause-equals c =
    let t = c.loop-i-test.false in
    are_halved c.args.k c.args.wide.now _ c.requires.small.count c.loop-i.invariant.count (λ i below. c.loop-i.invariant.halves i (omega (arith, t, below)))

pub returns-clause-small : goal.returns-clause-small
returns-clause-small c =
    let t = c.loop-i-test.false in
    are_within settled_limit _ c.loop-i.invariant.count (λ i below. c.loop-i.invariant.small i (omega (arith, t, below)))

pub floor_shift-requires-clause-small : goal.floor_shift-requires-clause-small
floor_shift-requires-clause-small c =
    let kept : to_z w128 (of_z w128 (get_or c.args.wide.now c.loop-i.i (pos 0))) ≡ get_or c.args.wide.now c.loop-i.i (pos 0) = search rules in
    rw kept (number_small _ c.args.wide.now c.loop-i.i c.requires.small c.loop-i-test.true)

pub loop-i-preserved : goal.loop-i-preserved
loop-i-preserved c =
    let t = c.loop-i-test.true in
    let count = c.loop-i.invariant.count in
    let fits : SFits w64 c.floor_shift.result = record { sfits = c.floor_shift.type_inv } in
    let below : c.loop-i.i < length c.loop-i.halves = omega (arith, t, count) in
    let kept : to_z w128 (of_z w128 (get_or c.args.wide.now c.loop-i.i (pos 0))) ≡ get_or c.args.wide.now c.loop-i.i (pos 0) = search rules in
    record {
      count = length-set _ _ _ ∙ count;
      halves = one_more (λ k z. z ≡ floor_div (get_or c.args.wide.now k (pos 0)) (2 ^ c.args.k)) w64 _ _ _ fits below (c.floor_shift.ensures.equals ∙ ap (λ y. floor_div y (2 ^ c.args.k)) kept) c.loop-i.invariant.halves;
      small = one_more (λ k z. unsigned_abs z ≤ settled_limit) w64 _ _ _ fits below c.floor_shift.ensures.small c.loop-i.invariant.small;
    }
