use Rattle.std.proofs.Common.{◌≡◌, ◌∙◌, ◌+◌, ◌^◌, ◌≤◌, arith, ap, drop, get_or, pos, unsigned_abs}
use Rattle.std.proofs.lemmas.List.{at_drop_more}
use Rattle.spec_models.specs.Models.{sizes}
use Rattle.span_models.specs.Sizes.{size_limit}
use Rattle.span_models.proofs.Numbers.{number_kept, number_small}
use Rattle.span_models.proofs.columns.magnitude_sum.Goals.{After-unsigned_abs-sum}
use Rattle.span_models.proofs.columns.magnitude_sum.Goals as goal

own : (c : After-unsigned_abs-sum) → c.unsigned_abs-sum.result ≡ unsigned_abs (get_or c.args.a.now c.loop-i.i (pos 0))
own c = c.unsigned_abs-sum.ensures.value ∙ ap unsigned_abs (number_kept c.args.a.now c.loop-i.i c.requires.small c.loop-i-test.true)

own_small : (c : After-unsigned_abs-sum) → c.unsigned_abs-sum.result ≤ 2 ^ 60
own_small c = rw (own c) (number_small size_limit c.args.a.now c.loop-i.i c.requires.small c.loop-i-test.true)

pub overflow_add-sum : goal.overflow_add-sum
overflow_add-sum c =
    let t = c.loop-i-test.true in
    let s = c.loop-i.invariant.size in
    let o = own_small c in
    record { fits = omega (arith, t, s, o) }

pub loop-i-preserved : goal.loop-i-preserved
loop-i-preserved c =
    let t = c.loop-i-test.true in
    let s = c.loop-i.invariant.size in
    let e = c.loop-i.invariant.sum in
    let o = own_small c in
    let v = own c in
    let count = c.requires.small.count in
    let more : sizes (drop c.loop-i.i c.args.a.now) ≡ unsigned_abs (get_or c.args.a.now c.loop-i.i (pos 0)) + sizes (drop (c.loop-i.i + 1) c.args.a.now) = at_drop_more sizes c.args.a.now c.loop-i.i (pos 0) (omega (arith, t, count)) in
    record {
      sum = omega (arith, e, v, more);
      size = omega (arith, s, o);
    }
