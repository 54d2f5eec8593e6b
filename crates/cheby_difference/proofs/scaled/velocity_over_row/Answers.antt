use Rattle.std.proofs.Common.{rules, ◌≡◌, ◌∙◌, pos, neg_ℤ, to_z, of_z, length, drop}
use Rattle.std.proofs.lemmas.Int.{to_z-of_z}
use mir.Syntax.{w128}
use mir.Val.{SFits}
use Rattle.spec_intervals.specs.Interval.{scale}
use Rattle.spec_chebyshev.specs.Rows.{u_row}
use Rattle.spec_motions.specs.Sums.{slope_row, sum_low, sum_high}
use Rattle.spec_motions.specs.Enclosures.{velocity_over}
use Rattle.spec_chebyshev.proofs.RowEnds.{u_ordered}
use Rattle.spec_motions.proofs.RowSums.{sums_ordered}
use Rattle.cheby_difference.proofs.SlopeRows.{IsSummable-slopes, IsOrdered-slopes, low_slopes, high_slopes}
use Rattle.cheby_difference.proofs.scaled.velocity_over_row.Goals as goal
use Rattle.cheby_difference.proofs.scaled.velocity_over_row.Goals.{After-slope_sum-sum}

pub slope_sum-sum-requires-clause-small : goal.slope_sum-sum-requires-clause-small
slope_sum-sum-requires-clause-small c few = IsSummable-slopes c.args.x c.requires.arguments c.args.slopes.now (length c.args.terms.now) few c.requires.slopes

pub slope_sum-sum-requires-clause-order : goal.slope_sum-sum-requires-clause-order
slope_sum-sum-requires-clause-order c = IsOrdered-slopes c.args.slopes.now (length c.args.terms.now) (u_row c.args.x) c.requires.slopes (u_ordered c.args.x c.requires.arguments)

low_is : (c : After-slope_sum-sum) → to_z w128 (of_z w128 c.slope_sum-sum.result.lo) ≡ sum_low (slope_row c.args.x) 1 (drop 1 c.args.terms.now)
low_is c =
    let f : SFits w128 c.slope_sum-sum.result.lo = search rules in
    to_z-of_z w128 c.slope_sum-sum.result.lo f
    ∙ (c.slope_sum-sum.ensures.lo ∙ low_slopes c.args.slopes.now (u_row c.args.x) c.args.terms.now c.requires.slopes)

high_is : (c : After-slope_sum-sum) → to_z w128 (of_z w128 c.slope_sum-sum.result.hi) ≡ sum_high (slope_row c.args.x) 1 (drop 1 c.args.terms.now)
high_is c =
    let f : SFits w128 c.slope_sum-sum.result.hi = search rules in
    to_z-of_z w128 c.slope_sum-sum.result.hi f
    ∙ (c.slope_sum-sum.ensures.hi ∙ high_slopes c.args.slopes.now (u_row c.args.x) c.args.terms.now c.requires.slopes)

pub scale_by-requires-clause-ordered : goal.scale_by-requires-clause-ordered
scale_by-requires-clause-ordered c =
    let d = (goal.at.scale_by-requires-clause-ordered c).After-slope_sum-sum in
    rw (low_is d, high_is d) (sums_ordered (slope_row c.args.x) 1 (drop 1 c.args.terms.now))

pub returns : goal.returns
unfolding velocity_over
returns c =
    let d = (goal.at.returns c).After-slope_sum-sum in
    c.scale_by.ensures.equals ∙ λ i. scale (low_is d i) (high_is d i) (neg_ℤ (pos 74)) c.args.divider.now
