use Rattle.std.proofs.Common.{arith, ◌≡◌, ◌∙◌, ◌^◌, ◌<◌, get_or, pos, ◌+ℤ◌, length, length-set}
use Rattle.span_models.proofs.Numbers.{are_sums, number_kept, number_small}
use mir.Syntax.{w128}
use mir.Val.{SFits}
use Rattle.spec_numbers.specs.Numbers.{floor_div}
use Rattle.span_models.specs.Sizes.{size_limit}
use Rattle.span_models.proofs.Filled.{one_more}
use Rattle.span_models.proofs.sums.coefficient_sums.Goals as goal

pub returns-clause-equals : goal.returns-clause-equals
returns-clause-equals c =
    let t = c.loop-i-test.false in
    are_sums c.args.k c.args.a.now c.args.b.now _ c.requires.first.count c.requires.second.count c.loop-i.invariant.count (λ i below. c.loop-i.invariant.sums i (omega (arith, t, below)))

pub coefficient_sum-requires-clause-a_small : goal.coefficient_sum-requires-clause-a_small
coefficient_sum-requires-clause-a_small c = rw (number_kept c.args.a.now c.loop-i.i c.requires.first c.loop-i-test.true) (number_small size_limit c.args.a.now c.loop-i.i c.requires.first c.loop-i-test.true)

pub coefficient_sum-requires-clause-b_small : goal.coefficient_sum-requires-clause-b_small
coefficient_sum-requires-clause-b_small c = rw (number_kept c.args.b.now c.loop-i.i c.requires.second c.loop-i-test.true) (number_small size_limit c.args.b.now c.loop-i.i c.requires.second c.loop-i-test.true)

pub loop-i-preserved : goal.loop-i-preserved
loop-i-preserved c =
    let t = c.loop-i-test.true in
    let count = c.loop-i.invariant.count in
    let fits : SFits w128 c.coefficient_sum.result = record { sfits = c.coefficient_sum.type_inv } in
    let below : c.loop-i.i < length c.loop-i.sums = omega (arith, t, count) in
    let first = number_kept c.args.a.now c.loop-i.i c.requires.first t in
    let second = number_kept c.args.b.now c.loop-i.i c.requires.second t in
    record {
      count = length-set _ _ _ ∙ count;
      sums = one_more (λ j z. z ≡ floor_div (get_or c.args.a.now j (pos 0)) (2 ^ c.args.k) +ℤ get_or c.args.b.now j (pos 0)) w128 _ _ _ fits below (c.coefficient_sum.ensures.equals ∙ λ i. floor_div (first i) (2 ^ c.args.k) +ℤ second i) c.loop-i.invariant.sums;
    }
