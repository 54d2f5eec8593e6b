use Rattle.std.proofs.Common.{◌∙◌, ◌+ℤ◌}
use Rattle.spec_intervals.specs.Interval.{sum_up}
use Rattle.spec_models.proofs.SumInclusions.{sums_ordered}
use Rattle.ival_core.proofs.Aligning.{step-is, step-ordered}
use Rattle.ival_core.proofs.Passing.{end_kept, exponent_kept, lifted_kept, step_kept}
use Rattle.ival_core.proofs.ival.sum_with_coarser.Goals as goal

pub normalize_ends-requires-clause-ordered : goal.normalize_ends-requires-clause-ordered
normalize_ends-requires-clause-ordered c =
    step-ordered (λ m n. m +ℤ n) (λ m n. m +ℤ n) c.args.x c.args.y c.align_ends-at.result c.align_ends-at.ensures _ _ (record { sfits = c.sum_of_ends-lo.type_inv }) (record { sfits = c.sum_of_ends-hi.type_inv }) c.sum_of_ends-lo.ensures.equals c.sum_of_ends-hi.ensures.equals (sums_ordered _ _ _ _ c.align_ends-at.ensures.lower_ordered c.align_ends-at.ensures.upper_ordered)

pub returns : goal.returns
unfolding sum_up
returns c =
    c.normalize_ends.ensures ∙ step-is (λ m n. m +ℤ n) (λ m n. m +ℤ n) c.args.x c.args.y c.align_ends-at.result c.align_ends-at.ensures _ _ (record { sfits = c.sum_of_ends-lo.type_inv }) (record { sfits = c.sum_of_ends-hi.type_inv }) c.sum_of_ends-lo.ensures.equals c.sum_of_ends-hi.ensures.equals

pub align_ends-at-requires-clause-order : goal.align_ends-at-requires-clause-order
align_ends-at-requires-clause-order c = c.requires.order

pub align_ends-at-requires-clause-exponent : goal.align_ends-at-requires-clause-exponent
align_ends-at-requires-clause-exponent c = c.requires.exponent

pub align_ends-at-requires-clause-other_exponent : goal.align_ends-at-requires-clause-other_exponent
align_ends-at-requires-clause-other_exponent c = c.requires.other_exponent

pub sum_of_ends-lo-requires-clause-a_small : goal.sum_of_ends-lo-requires-clause-a_small
sum_of_ends-lo-requires-clause-a_small c = end_kept c.align_ends-at.result.lower_lo c.align_ends-at.ensures.lower_lo_small

pub sum_of_ends-hi-requires-clause-a_small : goal.sum_of_ends-hi-requires-clause-a_small
sum_of_ends-hi-requires-clause-a_small c = end_kept c.align_ends-at.result.lower_hi c.align_ends-at.ensures.lower_hi_small

pub sum_of_ends-lo-requires-clause-b_small : goal.sum_of_ends-lo-requires-clause-b_small
sum_of_ends-lo-requires-clause-b_small c = lifted_kept c.align_ends-at.result.upper_lo c.align_ends-at.ensures.upper_lo_bound

pub sum_of_ends-hi-requires-clause-b_small : goal.sum_of_ends-hi-requires-clause-b_small
sum_of_ends-hi-requires-clause-b_small c = lifted_kept c.align_ends-at.result.upper_hi c.align_ends-at.ensures.upper_hi_bound

pub normalize_ends-requires-clause-lo_bound : goal.normalize_ends-requires-clause-lo_bound
normalize_ends-requires-clause-lo_bound c = step_kept c.sum_of_ends-lo.result c.sum_of_ends-lo.ensures.bound

pub normalize_ends-requires-clause-hi_bound : goal.normalize_ends-requires-clause-hi_bound
normalize_ends-requires-clause-hi_bound c = step_kept c.sum_of_ends-hi.result c.sum_of_ends-hi.ensures.bound

pub normalize_ends-requires-clause-exponent : goal.normalize_ends-requires-clause-exponent
normalize_ends-requires-clause-exponent c = exponent_kept c.align_ends-at.result.s c.align_ends-at.ensures.exponent_bound
