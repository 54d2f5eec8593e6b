use Rattle.std.proofs.Common.{◌≡◌, ◌∙◌, ◌-ℤ◌, pos, refl, to_z, of_z, w32, arith}
use Rattle.spec_intervals.specs.Interval.{product}
use Rattle.spec_intervals.specs.Enclosure.{offsets}
use Rattle.spec_models.specs.Bounds.{bound, coarse_sum, coarsened, reached}
use Rattle.event_bounds.proofs.Rules.{is_exponent, lowered, lowered_exponent, reached_by, stepped}
use Rattle.event_bounds.proofs.times.BoundTimes.coarsened_bound.Goals as goal

pub coarse_sum-reached-requires-clause-other_exponent : goal.coarse_sum-reached-requires-clause-other_exponent
coarse_sum-reached-requires-clause-other_exponent c =
    is_exponent 48126 c.mul.result (omega arith) (stepped c.args.self.now c.args.range c.args.step c.distances.result c.mul.result c.requires.range c.requires.step c.distances.ensures c.mul.ensures.equals)

pub exponent_below-requires : goal.exponent_below-requires
exponent_below-requires c =
    is_exponent 48127 c.coarse_sum-reached.result (omega arith)
    (reached_by c.args.self.now c.args.range c.args.step c.distances.result c.mul.result c.requires.range c.requires.step c.distances.ensures c.mul.ensures.equals c.coarse_sum-reached.result c.coarse_sum-reached.ensures)

pub coarsened-range-requires-clause-other_exponent : goal.coarsened-range-requires-clause-other_exponent
coarsened-range-requires-clause-other_exponent c =
    lowered_exponent c.exponent_below.result c.coarse_sum-reached.result.s
    (reached_by c.args.self.now c.args.range c.args.step c.distances.result c.mul.result c.requires.range c.requires.step c.distances.ensures c.mul.ensures.equals c.coarse_sum-reached.result c.coarse_sum-reached.ensures).exponent
    c.exponent_below.ensures

pub returns : goal.returns
unfolding bound
returns c =
    let a = c.args.self.now.span.now.first in
    let b = c.args.self.now.span.now.last in
    let small = (reached_by c.args.self.now c.args.range c.args.step c.distances.result c.mul.result c.requires.range c.requires.step c.distances.ensures c.mul.ensures.equals c.coarse_sum-reached.result c.coarse_sum-reached.ensures).exponent in
    let kept : to_z w32 (of_z w32 c.exponent_below.result) ≡ c.coarse_sum-reached.result.s -ℤ pos 60 = lowered c.exponent_below.result c.coarse_sum-reached.result.s small c.exponent_below.ensures in
    let step : c.mul.result ≡ product c.args.step (offsets a b) = c.mul.ensures.equals ∙ λ i. product c.args.step (c.distances.ensures i) in
    let are : c.coarse_sum-reached.result ≡ reached a b c.args.range c.args.step = c.coarse_sum-reached.ensures ∙ λ i. coarse_sum c.args.range (step i) in
    record { range = c.coarsened-range.ensures ∙ (λ i. coarsened (kept i) c.args.range) ∙ λ i. coarsened ((are i).s -ℤ pos 60) c.args.range; step = refl }
