use Rattle.std.proofs.Common.{rules, ◌≡◌, ◌∙◌, pos, neg_ℤ, to_z, of_z, arith}
use Rattle.std.proofs.lemmas.Int.{to_z-of_z}
use mir.Syntax.{w128}
use mir.Val.{SFits}
use Rattle.spec_intervals.specs.Interval.{scale}
use Rattle.spec_chebyshev.specs.Rows.{entry, q_row}
use Rattle.spec_motions.specs.Sums.{sum_low, sum_high}
use Rattle.spec_motions.specs.Enclosures.{position_step_over}
use Rattle.spec_chebyshev.proofs.Bounds.{q_within}
use Rattle.spec_chebyshev.proofs.RowEnds.{q_ordered}
use Rattle.spec_motions.proofs.RowSums.{low_same, high_same, sums_ordered}
use Rattle.cheby_difference.proofs.scaled.position_step_over_row.Goals as goal
use Rattle.cheby_difference.proofs.scaled.position_step_over_row.Goals.{After-row_sum-sum}

pub row_sum-sum-requires-clause-small : goal.row_sum-sum-requires-clause-small
row_sum-sum-requires-clause-small c few k h = rw (c.requires.q k h) (q_within c.args.x c.requires.arguments k (omega (arith, h, few)))

pub row_sum-sum-requires-clause-order : goal.row_sum-sum-requires-clause-order
row_sum-sum-requires-clause-order c k h = rw (c.requires.q k h) (q_ordered c.args.x c.requires.arguments k)

low_is : (c : After-row_sum-sum) → to_z w128 (of_z w128 c.row_sum-sum.result.lo) ≡ sum_low (q_row c.args.x) 0 c.args.terms.now
low_is c =
    let f : SFits w128 c.row_sum-sum.result.lo = search rules in
    to_z-of_z w128 c.row_sum-sum.result.lo f
    ∙ (c.row_sum-sum.ensures.lo ∙ low_same (entry c.args.q.now) (q_row c.args.x) 0 c.args.terms.now (λ j h. c.requires.q j (omega (arith, h))))

high_is : (c : After-row_sum-sum) → to_z w128 (of_z w128 c.row_sum-sum.result.hi) ≡ sum_high (q_row c.args.x) 0 c.args.terms.now
high_is c =
    let f : SFits w128 c.row_sum-sum.result.hi = search rules in
    to_z-of_z w128 c.row_sum-sum.result.hi f
    ∙ (c.row_sum-sum.ensures.hi ∙ high_same (entry c.args.q.now) (q_row c.args.x) 0 c.args.terms.now (λ j h. c.requires.q j (omega (arith, h))))

pub scale_by-requires-clause-ordered : goal.scale_by-requires-clause-ordered
scale_by-requires-clause-ordered c =
    let d = (goal.at.scale_by-requires-clause-ordered c).After-row_sum-sum in
    rw (low_is d, high_is d) (sums_ordered (q_row c.args.x) 0 c.args.terms.now)

pub returns : goal.returns
unfolding position_step_over
returns c =
    let d = (goal.at.returns c).After-row_sum-sum in
    c.scale_by.ensures.equals ∙ λ i. scale (low_is d i) (high_is d i) (neg_ℤ (pos 70)) c.args.divider.now
