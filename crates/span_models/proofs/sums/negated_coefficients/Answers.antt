use Rattle.std.proofs.Common.{arith, ◌≡◌, ◌∙◌, ◌<◌, ◌≤◌, ap, get_or, pos, neg_ℤ, length, length-set, unsigned_abs, w64}
use Rattle.span_models.specs.Sizes.{size_limit}
use Rattle.span_models.proofs.Numbers.{are_opposite, are_within, number_kept, number_small}
use mir.Val.{SFits}
use Rattle.span_models.proofs.Filled.{one_more}
use Rattle.span_models.proofs.sums.negated_coefficients.Goals as goal

pub returns-clause-equals : goal.returns-clause-equals
returns-clause-equals c =
    let t = c.loop-i-test.false in
    are_opposite c.args.a.now _ c.requires.count c.loop-i.invariant.count (λ i below. c.loop-i.invariant.numbers i (omega (arith, t, below)))

pub returns-clause-small : goal.returns-clause-small
returns-clause-small c =
    let t = c.loop-i-test.false in
    are_within size_limit _ c.loop-i.invariant.count (λ i below. c.loop-i.invariant.small i (omega (arith, t, below)))

pub negated_coefficient-requires : goal.negated_coefficient-requires
negated_coefficient-requires c = rw (number_kept c.args.a.now c.loop-i.i c.requires c.loop-i-test.true) (number_small size_limit c.args.a.now c.loop-i.i c.requires c.loop-i-test.true)

pub loop-i-preserved : goal.loop-i-preserved
loop-i-preserved c =
    let t = c.loop-i-test.true in
    let count = c.loop-i.invariant.count in
    let fits : SFits w64 c.negated_coefficient.result = record { sfits = c.negated_coefficient.type_inv } in
    let below : c.loop-i.i < length c.loop-i.negated = omega (arith, t, count) in
    record {
      count = length-set _ _ _ ∙ count;
      numbers = one_more (λ j z. z ≡ neg_ℤ (get_or c.args.a.now j (pos 0))) w64 _ _ _ fits below (c.negated_coefficient.ensures.equals ∙ ap neg_ℤ (number_kept c.args.a.now c.loop-i.i c.requires t)) c.loop-i.invariant.numbers;
      small = one_more (λ j z. unsigned_abs z ≤ size_limit) w64 _ _ _ fits below c.negated_coefficient.ensures.small c.loop-i.invariant.small;
    }
