use Rattle.std.proofs.Common.{rules, ◌≡◌, ◌∙◌, pos, neg_ℤ, to_z, of_z, arith, length, drop, ap, ℤ, ◌*ℤ◌}
use Rattle.std.proofs.lemmas.Int.{to_z-of_z}
use mir.Syntax.{w128}
use mir.Val.{SFits}
use Rattle.spec_intervals.specs.Interval.{scale}
use Rattle.spec_numbers.specs.Numbers.{floor_div, ceil_div}
use Rattle.spec_numbers.proofs.Floor.{ordered_quotients}
use Rattle.spec_chebyshev.specs.Rows.{r_row}
use Rattle.spec_motions.specs.Sums.{slope_difference_row, sum_low, sum_high}
use Rattle.spec_motions.specs.Enclosures.{velocity_step_over}
use Rattle.spec_chebyshev.proofs.RowEnds.{r_ordered}
use Rattle.spec_motions.proofs.RowSums.{sums_ordered}
use Rattle.cheby_difference.proofs.SlopeRows.{IsSummable-changes, IsOrdered-slopes, low_slopes, high_slopes}
use Rattle.spec_numbers.proofs.Integers.{doubles_ordered}
use Rattle.cheby_difference.proofs.scaled.velocity_step_over_row.Goals as goal
use Rattle.cheby_difference.proofs.scaled.velocity_step_over_row.Goals.{After-scale_ends_once-sum}

pub slope_sum-requires-clause-small : goal.slope_sum-requires-clause-small
slope_sum-requires-clause-small c few = IsSummable-changes c.args.x c.requires.arguments c.args.changes.now (length c.args.terms.now) few c.requires.changes

pub slope_sum-requires-clause-order : goal.slope_sum-requires-clause-order
slope_sum-requires-clause-order c = IsOrdered-slopes c.args.changes.now (length c.args.terms.now) (r_row c.args.x) c.requires.changes (r_ordered c.args.x c.requires.arguments)

low_is : (c : After-scale_ends_once-sum) → to_z w128 (of_z w128 c.scale_ends_once-sum.result.lo) ≡ floor_div (pos 2 *ℤ sum_low (slope_difference_row c.args.x) 1 (drop 1 c.args.terms.now)) c.args.divider.now
low_is c =
    let f : SFits w128 c.scale_ends_once-sum.result.lo = search rules in
    let s = c.slope_sum.ensures.lo ∙ low_slopes c.args.changes.now (r_row c.args.x) c.args.terms.now c.requires.changes in
    to_z-of_z w128 c.scale_ends_once-sum.result.lo f ∙ (c.scale_ends_once-sum.ensures.lo ∙ ap (λ (z : ℤ). floor_div (pos 2 *ℤ z) c.args.divider.now) s)

high_is : (c : After-scale_ends_once-sum) → to_z w128 (of_z w128 c.scale_ends_once-sum.result.hi) ≡ ceil_div (pos 2 *ℤ sum_high (slope_difference_row c.args.x) 1 (drop 1 c.args.terms.now)) c.args.divider.now
high_is c =
    let f : SFits w128 c.scale_ends_once-sum.result.hi = search rules in
    let s = c.slope_sum.ensures.hi ∙ high_slopes c.args.changes.now (r_row c.args.x) c.args.terms.now c.requires.changes in
    to_z-of_z w128 c.scale_ends_once-sum.result.hi f ∙ (c.scale_ends_once-sum.ensures.hi ∙ ap (λ (z : ℤ). ceil_div (pos 2 *ℤ z) c.args.divider.now) s)

pub scale_by-requires-clause-ordered : goal.scale_by-requires-clause-ordered
scale_by-requires-clause-ordered c =
    let d = (goal.at.scale_by-requires-clause-ordered c).After-scale_ends_once-sum in
    let low = sum_low (slope_difference_row c.args.x) 1 (drop 1 c.args.terms.now) in
    let high = sum_high (slope_difference_row c.args.x) 1 (drop 1 c.args.terms.now) in
    rw (low_is d, high_is d) (ordered_quotients (pos 2 *ℤ low) (pos 2 *ℤ high) c.args.divider.now (let p = c.scale_ends_once-sum.ensures.positive in omega (arith, p)) (doubles_ordered low high (sums_ordered (slope_difference_row c.args.x) 1 (drop 1 c.args.terms.now))))

pub returns : goal.returns
unfolding velocity_step_over
returns c =
    let d = (goal.at.returns c).After-scale_ends_once-sum in
    c.scale_by.ensures.equals ∙ λ i. scale (low_is d i) (high_is d i) (neg_ℤ (pos 68)) c.args.divider.now
